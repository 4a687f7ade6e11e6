use Rattle.std.proofs.Common.{◌+◌, ◌-◌, ◌<◌, arith}
use Rattle.m88_base.specs.Inside.Placing.{IsCut, IsCutBy}
use Rattle.m88_base.specs.Inside.Blocks.{all_runs, first_start}
use Rattle.m88_base.proofs.InBlocks.{block_apart}
use Rattle.m88_base.proofs.Counting.{counted_at, firsts_rise, located, none_at_all, none_here}
use Rattle.m88_base.proofs.blocks.Blocks.locate.Goals.{After-locate}
use Rattle.m88_base.proofs.blocks.Blocks.locate.Goals as goal

pub begun_by-passed-requires : goal.begun_by-passed-requires
begun_by-passed-requires c = rw c.deref.ensures.value (firsts_rise c.self.inside.blocks.items c.self.invariant.1 (rw (← c.self.view_is) at c.requires))

pub returns-then-passed-eq0 : goal.returns-then-passed-eq0
returns-then-passed-eq0 c =
    rw (← c.self.view_is)
    (none_here c.self.inside.blocks.items c.begun_by-passed.result c.args.at c.self.invariant.1 (rw (← c.self.view_is) at c.requires)
    (rw c.deref.ensures.value at c.begun_by-passed.ensures) c.if-passed-eq0.true)

pub returns-then-self-eq0 : goal.returns-then-self-eq0
returns-then-self-eq0 c =
    rw (← c.self.view_is) (none_at_all (all_runs c.self.inside.blocks.items) c.args.at (omega (arith, c.self.invariant.0, c.if-self-eq0.true)))

pub locate-requires : goal.locate-requires
locate-requires c =
    let cut : IsCutBy first_start c.self.inside.blocks.items c.args.at c.begun_by-passed.result = rw c.deref.ensures.value at c.begun_by-passed.ensures in
    block_apart c.self.inside.blocks.items (c.begun_by-passed.result - 1) c.index-block.result.now (omega (arith, cut.bound)) c.index-block.ensures
    (rw (← c.self.view_is) at c.requires)

here : (c : After-locate) → 0 < c.begun_by-passed.result → IsCut (all_runs c.self.inside.blocks.items) (c.index.result.now + c.locate.result) c.args.at
here c some =
    let bs = c.self.inside.blocks.items in
    let n = c.begun_by-passed.result in
    let cut : IsCutBy first_start bs c.args.at n = rw c.deref.ensures.value at c.begun_by-passed.ensures in
    located bs n c.locate.result c.index.result.now c.args.at c.index-block.result.now c.self.invariant.1 (rw (← c.self.view_is) at c.requires) cut some
    c.index-block.ensures (counted_at c.self.inside.starts.items bs (n - 1) c.index.result.now c.self.invariant.2 (omega (arith, cut.bound, some)) c.index.ensures)
    c.locate.ensures

pub overflow_add-result : goal.overflow_add-result
overflow_add-result c = omega (arith, (here ((goal.at.overflow_add-result c).After-locate) (omega arith)).bound, c.self.invariant.0)

pub returns : goal.returns
returns c = rw (← c.self.view_is) (here ((goal.at.returns c).After-locate) (omega arith))
