use Rattle.m88_base.specs.Inside.Placing.{Places}
use Rattle.m88_base.specs.Inside.Blocks.{all_runs}
use Rattle.m88_base.proofs.Edits.{inserted}
use Rattle.m88_base.proofs.segments.Segments.place_alone.Goals.{In_ok-insert}
use Rattle.m88_base.proofs.segments.Segments.place_alone.Goals as goal

placed : (c : In_ok-insert) → Places (all_runs c.self.inside.runs) (all_runs c.insert.new.self) c.args.at c.args.bytes.now
placed c =
    rw (c.in_ok-insert.ensures.ok, c.in_ok-run.ensures)
    (inserted (all_runs c.self.inside.runs) c.args.index c.args.at c.args.bytes.now c.self.invariant (rw (← c.self.view_is) at c.requires.above)
    (rw (← c.self.view_is) at c.requires.below) c.requires.some)

pub invariant_of-self-2 : goal.invariant_of-self-2
invariant_of-self-2 c = (placed ((goal.at.invariant_of-self-2 c).In_ok-insert)).apart

pub returns : goal.returns
returns c = record { ok = rw (← c.self.view_is) (placed ((goal.at.returns c).In_ok-insert)); err = tt }
