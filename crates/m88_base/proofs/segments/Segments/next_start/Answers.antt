use Rattle.std.proofs.Common.{arith}
use Rattle.m88_base.specs.Inside.Blocks.{all_runs}
use Rattle.m88_base.proofs.Cuts.{next_start-take}
use Rattle.m88_base.proofs.segments.Segments.next_start.Goals as goal

pub returns : goal.returns
returns c =
    rw (← c.self.view_is, next_start-take (all_runs c.self.inside.runs) c.args.index c.get.result.now (omega arith) (rw (← c.self.view_is) at c.requires), ← c.get.ensures, c.end.ensures.value)
