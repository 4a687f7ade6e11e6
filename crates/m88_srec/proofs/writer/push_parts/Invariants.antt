-- The lines of the parts so far.
use Rattle.std.proofs.Common.{◌≡◌, ◌++◌, take}
use Rattle.std.specs.List.{flat_map}
use Rattle.m88_base.specs.Lines.{text_of_lines}
use Rattle.m88_base.specs.Image.{parts}
use Rattle.m88_srec.specs.Written.{part_lines}
use Rattle.m88_srec.proofs.writer.push_parts.Given as goal

abbrev pub invariant-loop-index : goal.invariant-loop-index
invariant-loop-index l = l.text.items ≡ l.initial.text.items ++ text_of_lines (flat_map part_lines (take l.index (parts l.image)))
