-- What is taken so far leads on, and the numbers stay below those of the bytes.
use Rattle.std.proofs.Common.{◌+◌, ◌≤◌, length}
use Rattle.m88_srec.specs.Inside.Taking.{AreCounted, LeadsPast, begun_seen, reach}
use Rattle.m88_srec.proofs.so_far.TextSoFar.piece.Given as goal

abbrev pub invariant-loop-rest : goal.invariant-loop-rest
invariant-loop-rest l = record {
  taken : LeadsPast l.piece l.rest (begun_seen l.initial.self) (begun_seen l.self);
  reach : reach l.self + length l.rest ≤ reach l.initial.self + length l.piece;
  counted : AreCounted l.self;
}

abbrev pub decreases-loop-rest : goal.decreases-loop-rest
decreases-loop-rest l = length l.rest
