-- The image has the bytes of the sections so far and the start it had.
use Rattle.std.proofs.Common.{◌≡◌, ℕ, take}
use Rattle.m88_base.specs.Image.{byte_at, byte_count}
use Rattle.m88_base.specs.Placed.{byte_among, count_among}
use Rattle.m88_link.proofs.placing.put.Given as goal

abbrev pub invariant-loop-spot : goal.invariant-loop-spot
invariant-loop-spot l =
    ((a : ℕ) → byte_at l.image a ≡ byte_among (take l.spot-index l.spots) a)
    × (byte_count l.image ≡ count_among (take l.spot-index l.spots))
    × (l.image.start ≡ l.initial.image.start)
