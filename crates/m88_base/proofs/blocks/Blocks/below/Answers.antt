-- The last run that begins at or below an address stands in the last block that does.
use Rattle.std.proofs.Common.{◌-◌, arith}
use Rattle.m88_base.specs.Inside.Placing.{IsCutBy}
use Rattle.m88_base.specs.Inside.Blocks.{first_start}
use Rattle.m88_base.proofs.InBlocks.{block_apart}
use Rattle.m88_base.proofs.Counting.{firsts_rise, last_here, none_here}
use Rattle.m88_base.proofs.blocks.Blocks.below.Goals as goal

pub begun_by-passed-requires : goal.begun_by-passed-requires
begun_by-passed-requires c = rw c.deref.ensures.value (firsts_rise c.self.inside.blocks.items c.self.invariant.1 (rw (← c.self.view_is) at c.requires))

pub returns-then-passed-eq0-clause-none : goal.returns-then-passed-eq0-clause-none
returns-then-passed-eq0-clause-none c =
    rw (← c.self.view_is)
    (none_here c.self.inside.blocks.items c.begun_by-passed.result c.args.at c.self.invariant.1 (rw (← c.self.view_is) at c.requires)
    (rw c.deref.ensures.value at c.begun_by-passed.ensures) c.if-passed-eq0.true).above

pub below-requires-clause-apart : goal.below-requires-clause-apart
below-requires-clause-apart c =
    let cut : IsCutBy first_start c.self.inside.blocks.items c.args.at c.begun_by-passed.result = rw c.deref.ensures.value at c.begun_by-passed.ensures in
    block_apart c.self.inside.blocks.items (c.begun_by-passed.result - 1) c.index-block.result.now (omega (arith, cut.bound)) c.index-block.ensures
    (rw (← c.self.view_is) at c.requires)

pub returns-clause-some : goal.returns-clause-some
returns-clause-some c =
    rw (← c.self.view_is)
    (last_here c.self.inside.blocks.items c.begun_by-passed.result c.args.at c.index-block.result.now c.below.result.now c.self.invariant.1
    (rw (← c.self.view_is) at c.requires) (rw c.deref.ensures.value at c.begun_by-passed.ensures) (omega arith) c.index-block.ensures c.below.ensures)
