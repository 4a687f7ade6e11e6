-- The sections so far, as the object has them.
use Rattle.std.proofs.Common.{◌≡◌, take, map}
use Rattle.m88_link.specs.Inside.Carried.{unpatched}
use Rattle.m88_link.proofs.placing.bare_spots.Given as goal

abbrev pub invariant-loop-section : goal.invariant-loop-section
invariant-loop-section l = l.spots.items ≡ map (unpatched l.placement) (take l.section-index l.sections)
