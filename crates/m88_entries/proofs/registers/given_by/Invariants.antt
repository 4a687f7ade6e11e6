-- The registers so far are given.
use Rattle.std.specs.Prelude.{replicate, slice_index, ◌≡◌}
use Rattle.m88_entries.proofs.RegisterLines.{HasGiven}
use Rattle.m88_entries.proofs.registers.given_by.Given as goal

abbrev pub invariant-loop-index : goal.invariant-loop-index
invariant-loop-index l = record {
  given : HasGiven l.words l.first l.index (replicate 32 0) l.given;
  zero : slice_index l.given 0 ≡ 0;
}
