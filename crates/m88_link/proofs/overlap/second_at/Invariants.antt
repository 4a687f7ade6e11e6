-- The second one that has the address is the next of those that are left, or the one behind it while none was found.
use Rattle.std.proofs.Common.{◌≡◌, drop, filter, slice_get, if◌then◌else◌}
use Rattle.m88_link.specs.Refusal.{covers}
use Rattle.m88_link.proofs.overlap.second_at.Given as goal

abbrev pub invariant-loop-extent : goal.invariant-loop-extent
invariant-loop-extent l =
    slice_get (filter (covers l.at) (drop l.extent-index l.extents)) (if l.has_first then 0 else 1) ≡ slice_get (filter (covers l.at) l.extents) 1
