-- The room that is left and the bytes of the objects so far are the whole room.
use Rattle.std.proofs.Common.{◌≡◌, ◌+◌, take}
use Rattle.m88_link.specs.Sizes.{total_size}
use Rattle.m88_base.specs.Image.{most_bytes}
use Rattle.m88_link.proofs.bases.fit.Given as goal

abbrev pub invariant-loop-object : goal.invariant-loop-object
invariant-loop-object l = l.room + total_size (take l.object-index l.objects) ≡ most_bytes
