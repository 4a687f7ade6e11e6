use Rattle.std.proofs.Common.{add-one, arith, ◌∙◌}
use Rattle.m88_base.proofs.Filled.{begun_over, run_over, run_behind}
use Rattle.m88_base.proofs.block.fill.Goals as goal

pub loop-index-init : goal.loop-index-init
loop-index-init c =
    begun_over c.args.runs.now c.locate.result c.saturating_sub-index.result c.args.at c.args.room.now c.requires c.locate.ensures
    (omega (arith, c.saturating_sub-index.ensures))

pub returns-then-from-end : goal.returns-then-from-end
returns-then-from-end c =
    c.loop-index.invariant
    ∙ run_behind c.args.runs.now c.loop-index.index c.args.at c.index-runs-index.result c.args.room.now c.requires (omega arith) c.index-runs-index.is
    (omega arith)

pub loop-index-preserved : goal.loop-index-preserved
loop-index-preserved c =
    rw add-one
    (c.fill.ensures
    ∙ run_over c.args.runs.now c.loop-index.index c.args.at c.index-runs-index.result c.args.room.now c.loop-index.room c.requires (omega arith)
    c.index-runs-index.is c.loop-index.invariant)
