-- The triple of the control registers is the one by its place.
use Rattle.m88_monitor.proofs.Steps.{by_place}
use Rattle.m88_monitor.proofs.served.triple_at.Goals as goal

pub returns : goal.returns
returns c = by_place c.args.index c.args.ctrl.now c.triple.result c.requires c.triple.ensures
