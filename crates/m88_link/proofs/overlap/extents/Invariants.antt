-- The rooms of the sections of the objects so far.
use Rattle.std.proofs.Common.{◌≡◌, take}
use Rattle.std.specs.Prelude.{flat_map}
use Rattle.m88_link.specs.Layout.{extents_of}
use Rattle.m88_link.proofs.overlap.extents.Given as goal

abbrev pub invariant-loop-placement : goal.invariant-loop-placement
invariant-loop-placement l = l.extents.items ≡ flat_map extents_of (take l.placement-index l.placements)
