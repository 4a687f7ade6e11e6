-- The lines of the sections so far behind the text before; each has a text.
use Rattle.std.proofs.Common.{◌≡◌, ◌++◌, take}
use Rattle.std.specs.Prelude.{All, flat_map}
use Rattle.m88_link.specs.ObjectRead.{HasSectionText}
use Rattle.m88_link.specs.ObjectText.{section_lines}
use Rattle.m88_link.proofs.text.push_sections.Given as goal

abbrev pub invariant-loop-section : goal.invariant-loop-section
invariant-loop-section l = record {
  text : l.text.items ≡ l.initial.text.items ++ flat_map section_lines (take l.section-index l.sections);
  have : All HasSectionText (take l.section-index l.sections);
}
