-- So far no line of a register was met.
use Rattle.std.proofs.Common.{◌+◌, ◌≤◌, length}
use Rattle.m88_entries.proofs.Splits.{Splits}
use Rattle.m88_entries.proofs.splitting.parts_of.Given as goal

abbrev pub invariant-loop-line : goal.invariant-loop-line
invariant-loop-line l = record {
  splits : Splits l.input l.rest l.passed l.lines;
  few : l.lines + length l.rest ≤ length l.input;
}

abbrev pub decreases-loop-line : goal.decreases-loop-line
decreases-loop-line l = length l.rest
