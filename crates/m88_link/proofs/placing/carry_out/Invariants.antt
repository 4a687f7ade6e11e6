-- The relocations that are left come to what all come to, and each word lies in its section. The first faults so far
-- are found.
use Rattle.std.proofs.Common.{◌≡◌, take, drop}
use Rattle.std.specs.Prelude.{All}
use Rattle.m88_link.specs.Inside.Carried.{HasWord}
use Rattle.m88_link.specs.Inside.Findings.{IsEnded, with_uses}
use Rattle.m88_link.specs.Inside.Resolved.{carried_known, uses_in}
use Rattle.m88_link.specs.Refusal.{too_far, undefined}
use Rattle.m88_link.proofs.placing.carry_out.Given as goal

abbrev pub invariant-loop-reloc : goal.invariant-loop-reloc
invariant-loop-reloc l =
    let done = uses_in l.globals l.placement (take l.reloc-index l.relocs) in
    (carried_known l.globals l.placement (drop l.reloc-index l.relocs) l.spots.items
    ≡ carried_known l.globals l.placement l.relocs l.initial.spots.items)
    × All (HasWord l.spots.items) l.relocs
    × (l.findings ≡ with_uses l.initial.findings (undefined done) (too_far done))
    × IsEnded l.initial.findings.goes_on (undefined done)
