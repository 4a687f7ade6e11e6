use Rattle.std.proofs.Common.{◌<◌, length, arith, add-one, ◌∙◌}
use Rattle.m88_base.proofs.InBlocks.{block_apart}
use Rattle.m88_base.proofs.Counting.{firsts_rise}
use Rattle.m88_base.proofs.Filled.{block_behind, block_over, blocks_begun_over}
use Rattle.m88_base.proofs.blocks.Blocks.fill.Goals as goal

pub begun_by-requires : goal.begun_by-requires
begun_by-requires c = rw c.deref.ensures.value (firsts_rise c.self.inside.blocks.items c.self.invariant.1 (rw (← c.self.view_is) at c.requires))

pub loop-index-init : goal.loop-index-init
loop-index-init c =
    blocks_begun_over c.self.inside.blocks.items c.begun_by.result c.saturating_sub-index.result c.args.at c.args.room.now c.self.invariant.1
    (rw (← c.self.view_is) at c.requires) (rw c.deref.ensures.value at c.begun_by.ensures) (omega (arith, c.saturating_sub-index.ensures))

pub fill-requires : goal.fill-requires
fill-requires c =
    block_apart c.self.inside.blocks.items c.loop-index.index c.index-block.result.now (omega arith) c.index-block.ensures (rw (← c.self.view_is) at c.requires)

pub returns-then-from-end : goal.returns-then-from-end
returns-then-from-end c =
    let bs = c.self.inside.blocks.items in
    let within : c.loop-index.index < length bs = omega arith in
    rw (← c.self.view_is)
    (c.loop-index.invariant
    ∙ block_behind bs c.loop-index.index c.args.at c.index-block.result.now c.args.room.now (rw (← c.self.view_is) at c.requires) within c.index-block.ensures
    (rw (← c.index-block.ensures) at (c.self.invariant.1 c.loop-index.index c.index-block.result.now within)) (omega arith))

pub loop-index-preserved : goal.loop-index-preserved
loop-index-preserved c =
    rw add-one
    (c.fill.ensures
    ∙ block_over c.self.inside.blocks.items c.loop-index.index c.args.at c.index-block.result.now c.args.room.now c.loop-index.room
    (rw (← c.self.view_is) at c.requires) (omega arith) c.index-block.ensures c.loop-index.invariant)
