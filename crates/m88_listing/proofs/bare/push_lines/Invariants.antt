-- The lines so far were added, and the others are left.
use Rattle.std.proofs.Common.{◌≡◌, ◌+◌, ◌-◌, ◌≤◌, ◌++◌, drop, length, take}
use Rattle.std.specs.List.{enumerate_from}
use Rattle.m88_base.specs.Lines.{lines_of}
use Rattle.m88_listing.specs.Inside.Pushed.{bare_text}
use Rattle.m88_listing.proofs.bare.push_lines.Given as goal

abbrev pub invariant-loop-column : goal.invariant-loop-column
invariant-loop-column l = record {
  text : l.text.items ++ l.block ≡ l.initial.text.items ++ bare_text (take (l.column - l.initial.column) (enumerate_from l.initial.column (lines_of l.source)));
  left : lines_of l.rest ≡ drop (l.column - l.initial.column) (lines_of l.source);
  forward : l.initial.column ≤ l.column;
  shorter : l.column + length l.rest ≤ l.initial.column + length l.source;
  within : l.initial.column ≤ l.until → l.column ≤ l.until;
}

abbrev pub decreases-loop-column : goal.decreases-loop-column
decreases-loop-column l = length l.rest
