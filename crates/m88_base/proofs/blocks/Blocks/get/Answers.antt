use Rattle.m88_base.proofs.InBlocks.{get_at}
use Rattle.m88_base.proofs.blocks.Blocks.get.Goals as goal

pub returns : goal.returns
returns c =
    rw (← c.self.view_is)
    (get_at c.self.inside.blocks.items c.place_of-at.result.0 c.place_of-at.result.1 c.args.index c.index-block.result.now c.get.result.now
    (rw (← c.self.view_is) at c.place_of-at.ensures) c.index-block.ensures c.get.ensures)
