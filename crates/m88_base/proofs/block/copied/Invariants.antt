-- The copy has what was passed so far.
use Rattle.std.proofs.Common.{◌≡◌, take}
use Rattle.m88_base.proofs.block.copied.Given as goal

abbrev pub invariant-loop-run : goal.invariant-loop-run
invariant-loop-run l = l.copy.items ≡ take l.run-index l.runs
