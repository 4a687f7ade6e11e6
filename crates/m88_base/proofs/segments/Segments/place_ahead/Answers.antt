use Rattle.m88_base.specs.Inside.Placing.{Places}
use Rattle.m88_base.specs.Inside.Blocks.{all_runs}
use Rattle.m88_base.proofs.Edits.{begun_earlier}
use Rattle.m88_base.proofs.segments.Segments.place_ahead.Goals.{In_ok-prepend_at}
use Rattle.m88_base.proofs.segments.Segments.place_ahead.Goals as goal

placed : (c : In_ok-prepend_at) → Places (all_runs c.self.inside.runs) (all_runs c.prepend_at.new.self) c.args.at c.args.bytes.now
placed c =
    rw c.in_ok-prepend_at.ensures.ok
    (begun_earlier (all_runs c.self.inside.runs) c.args.index c.args.at c.args.bytes.now c.self.invariant (rw (← c.self.view_is) at c.requires.above)
    (rw (← c.self.view_is) at c.requires.below) c.requires.some)

pub invariant_of-self-2 : goal.invariant_of-self-2
invariant_of-self-2 c = (placed ((goal.at.invariant_of-self-2 c).In_ok-prepend_at)).apart

pub returns : goal.returns
returns c = record { ok = rw (← c.self.view_is) (placed ((goal.at.returns c).In_ok-prepend_at)); err = tt }
