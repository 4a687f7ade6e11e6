-- What stands below the bytes so far is there.
use Rattle.std.proofs.Common.{◌≡◌, ◌++◌, drop, map}
use Rattle.m88_listing.specs.Refused.{below}
use Rattle.m88_listing.proofs.refused.push_below.Given as goal

abbrev pub invariant-loop-b : goal.invariant-loop-b
invariant-loop-b l = l.text.items ++ map below (drop l.b-index l.bytes) ≡ l.initial.text.items ++ map below l.bytes
