use Rattle.std.proofs.Common.{◌≤◌, length, arith}
use Rattle.m88_base.specs.Inside.Placing.{Places}
use Rattle.m88_base.specs.Inside.Blocks.{all_runs}
use Rattle.m88_base.proofs.Edits.{ends_before, lengthened}
use Rattle.m88_base.proofs.segments.Segments.place_behind.Goals.{In_ok-append_at}
use Rattle.m88_base.proofs.segments.Segments.place_behind.Goals as goal

pub append_at-requires-clause-room : goal.append_at-requires-clause-room
append_at-requires-clause-room c =
    let within : c.args.index ≤ length (all_runs c.self.inside.runs) = rw (← c.self.view_is) at c.requires.within in
    omega (arith, ends_before (all_runs c.self.inside.runs) c.args.index c.args.at within (rw (← c.self.view_is) at c.requires.above))

placed : (c : In_ok-append_at) → Places (all_runs c.self.inside.runs) (all_runs c.append_at.new.self) c.args.at c.args.bytes.now
placed c =
    rw c.in_ok-append_at.ensures.ok
    (lengthened (all_runs c.self.inside.runs) c.args.index c.args.at c.args.bytes.now c.self.invariant (rw (← c.self.view_is) at c.requires.within)
    (rw (← c.self.view_is) at c.requires.above) (rw (← c.self.view_is) at c.requires.below))

pub invariant_of-self-2 : goal.invariant_of-self-2
invariant_of-self-2 c = (placed ((goal.at.invariant_of-self-2 c).In_ok-append_at)).apart

pub returns : goal.returns
returns c = record { ok = rw (← c.self.view_is) (placed ((goal.at.returns c).In_ok-append_at)); err = tt }
