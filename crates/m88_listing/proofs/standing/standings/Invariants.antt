-- The modules so far, with those that are left, are all where they stand.
use Rattle.std.proofs.Common.{◌≡◌, ◌++◌, drop}
use Rattle.m88_asm.specs.Units.{based}
use Rattle.m88_listing.proofs.standing.standings.Given as goal

abbrev pub invariant-loop-index : goal.invariant-loop-index
invariant-loop-index l = l.standings.items ++ drop l.index (based l.unit) ≡ based l.unit
