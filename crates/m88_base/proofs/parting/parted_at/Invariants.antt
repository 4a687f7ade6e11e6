-- Behind so many lines, of which none is the word, stands the rest.
use Rattle.std.proofs.Common.{◌+◌, ◌≤◌, length}
use Rattle.m88_base.proofs.PartedLines.{HasPassed}
use Rattle.m88_base.proofs.parting.parted_at.Given as goal

abbrev pub invariant-loop-word : goal.invariant-loop-word
invariant-loop-word l = record {
  passed : HasPassed l.word l.input l.rest l.lines;
  few : l.lines + length l.rest ≤ length l.input;
}

abbrev pub decreases-loop-word : goal.decreases-loop-word
decreases-loop-word l = length l.rest
