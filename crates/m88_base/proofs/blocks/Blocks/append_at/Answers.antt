use Rattle.std.proofs.Common.{◌≡◌, ◌<◌, length}
use Rattle.m88_base.specs.Inside.Blocks.{IsRunInBlocks, all_runs, run_at}
use Rattle.m88_base.proofs.InBlocks.{set_at}
use Rattle.m88_base.proofs.Changed.{kept_with, run_here}
use Rattle.m88_base.proofs.blocks.Blocks.append_at.Goals.{After-index_mut-block}
use Rattle.m88_base.proofs.blocks.Blocks.append_at.Goals as goal

place : (c : After-index_mut-block) → IsRunInBlocks c.self.inside.blocks.items c.place_of-at.result.0 c.place_of-at.result.1 c.args.index
place c = rw (← c.self.view_is) at c.place_of-at.ensures

here : (c : After-index_mut-block) → run_at c.index_mut-block.result.now c.place_of-at.result.1 ≡ run_at (all_runs c.self.inside.blocks.items) c.args.index
here c =
    let within : c.args.index < length (all_runs c.self.inside.blocks.items) = rw (← c.self.view_is) at c.requires.within in
    run_here c.self.inside.blocks.items c.place_of-at.result.0 c.place_of-at.result.1 c.args.index c.index_mut-block.result.now (place c)
    c.index_mut-block.ensures.value within

pub append_at-requires-clause-room : goal.append_at-requires-clause-room
append_at-requires-clause-room c = rw (here ((goal.at.append_at-requires-clause-room c).After-index_mut-block)) (rw (← c.self.view_is) at c.requires.room)

pub invariant_of-self-2 : goal.invariant_of-self-2
invariant_of-self-2 c =
    kept_with c.self.inside.len c.self.inside.starts.items c.self.inside.blocks.items c.place_of-at.result.0 c.place_of-at.result.1 c.args.index
    c.index_mut-block.result.now c.append_at.new.self _ (place ((goal.at.invariant_of-self-2 c).After-index_mut-block)) c.index_mut-block.ensures.value
    c.in_ok-append_at.ensures.ok c.self.invariant

pub returns-clause-ok : goal.returns-clause-ok
returns-clause-ok c =
    let k = (goal.at.returns-clause-ok c).After-index_mut-block in
    rw (← c.self.view_is, c.in_ok-append_at.ensures.ok, here k)
    (set_at c.self.inside.blocks.items c.place_of-at.result.0 c.place_of-at.result.1 c.args.index c.index_mut-block.result.now _ (place k)
    c.index_mut-block.ensures.value)
