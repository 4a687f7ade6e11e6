-- The rooms of the sections so far behind those before.
use Rattle.std.proofs.Common.{◌≡◌, ◌++◌, take, map}
use Rattle.m88_link.specs.Layout.{extent}
use Rattle.m88_link.proofs.overlap.push_extents.Given as goal

abbrev pub invariant-loop-section : goal.invariant-loop-section
invariant-loop-section l = l.extents.items ≡ l.initial.extents.items ++ map (extent l.placement) (take l.section-index l.sections)
