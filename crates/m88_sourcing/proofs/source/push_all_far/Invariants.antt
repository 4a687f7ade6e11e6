-- The lines of the targets so far are there.
use Rattle.std.proofs.Common.{◌≡◌, ◌++◌, map, take}
use Rattle.m88_base.specs.Lines.{text_of_lines}
use Rattle.m88_sourcing.specs.Source.{far_line}
use Rattle.m88_sourcing.proofs.source.push_all_far.Given as goal

abbrev pub invariant-loop-at : goal.invariant-loop-at
invariant-loop-at l =
    l.text.items ≡ l.fn.text.items ++ text_of_lines (map far_line (take l.at-index l.outline.far.items))
