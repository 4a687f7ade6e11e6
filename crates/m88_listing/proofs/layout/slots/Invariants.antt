-- What is kept so far, with what is kept of the modules that are left, is all that is kept.
use Rattle.std.proofs.Common.{◌≡◌, ◌++◌, drop}
use Rattle.m88_listing.specs.Inside.Slots.{slots_of}
use Rattle.m88_listing.proofs.layout.slots.Given as goal

abbrev pub invariant-loop-standing : goal.invariant-loop-standing
invariant-loop-standing l = l.slots.items ++ slots_of (drop l.standing-index l.standings) ≡ slots_of l.standings
