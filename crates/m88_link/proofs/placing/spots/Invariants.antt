-- The sections of the objects so far, and the first faults in them.
use Rattle.std.proofs.Common.{◌≡◌, take}
use Rattle.std.specs.Prelude.{flat_map}
use Rattle.m88_link.specs.Inside.Findings.{IsEnded, with_uses}
use Rattle.m88_link.specs.Inside.Resolved.{all_uses, carried_spots}
use Rattle.m88_link.specs.Refusal.{too_far, undefined}
use Rattle.m88_link.proofs.placing.spots.Given as goal

abbrev pub invariant-loop-placement : goal.invariant-loop-placement
invariant-loop-placement l =
    let done = flat_map (all_uses l.globals) (take l.placement-index l.placements) in
    (l.spots.items ≡ flat_map (carried_spots l.globals) (take l.placement-index l.placements))
    × (l.findings ≡ with_uses l.initial.findings (undefined done) (too_far done))
    × IsEnded l.initial.findings.goes_on (undefined done)
