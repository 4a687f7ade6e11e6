use Rattle.std.proofs.Common.{arith}
use Rattle.m88_base.proofs.Counting.{counts_rise, place_at}
use Rattle.m88_base.proofs.blocks.Blocks.place_of.Goals as goal

pub counted_by-passed-requires : goal.counted_by-passed-requires
counted_by-passed-requires c = rw c.deref.ensures.value (counts_rise c.self.inside.starts.items c.self.inside.blocks.items c.self.invariant.2)

pub returns : goal.returns
returns c =
    rw (← c.self.view_is)
    (place_at c.self.inside.starts.items c.self.inside.blocks.items c.args.index c.counted_by-passed.result c.index.result.now c.self.invariant.2
    (rw (← c.self.view_is) at c.requires) (rw c.deref.ensures.value at c.counted_by-passed.ensures) (omega arith) c.index.ensures).1
