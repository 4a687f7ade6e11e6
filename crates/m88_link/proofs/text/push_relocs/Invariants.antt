-- The lines of the relocations so far behind the text before; each has a text.
use Rattle.std.proofs.Common.{◌≡◌, ◌++◌, take}
use Rattle.std.specs.Prelude.{All, flat_map}
use Rattle.m88_link.specs.ObjectRead.{HasRelocText}
use Rattle.m88_link.specs.ObjectText.{reloc_line}
use Rattle.m88_link.proofs.text.push_relocs.Given as goal

abbrev pub invariant-loop-reloc : goal.invariant-loop-reloc
invariant-loop-reloc l = record {
  text : l.text.items ≡ l.initial.text.items ++ flat_map reloc_line (take l.reloc-index l.relocs);
  have : All HasRelocText (take l.reloc-index l.relocs);
}
