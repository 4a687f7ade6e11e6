use Rattle.m88_base.proofs.Cuts.{run_is_part}
use Rattle.m88_base.specs.Inside.Blocks.{all_runs}
use Rattle.m88_base.proofs.segments.Segments.get.Goals as goal

pub returns-clause-part : goal.returns-clause-part
returns-clause-part c =
    rw (← c.self.view_is)
    (run_is_part (all_runs c.self.inside.runs) c.args.index c.get.result.now c.self.invariant (rw (← c.self.view_is) at c.requires) c.get.ensures)
