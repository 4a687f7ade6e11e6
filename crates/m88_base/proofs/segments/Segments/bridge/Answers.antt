use Rattle.std.proofs.Common.{◌≡◌, ◌+◌, ◌-◌, ◌<◌, ◌≤◌, ap, drop, length, take, arith}
use Rattle.m88_base.specs.Inside.Placing.{BeginsAt, Places, next_start}
use Rattle.m88_base.specs.Inside.Blocks.{all_runs, end_of, run_at}
use Rattle.m88_base.proofs.Edits.{begins_within, bridged, bridged_down, found_run, room_above, room_below}
use Rattle.m88_base.proofs.segments.Segments.bridge.Goals.{After-bytes-above, After-remove, After-remove-2}
use Rattle.m88_base.proofs.segments.Segments.bridge.Goals as goal

-- where the run below ends, and where the one above begins
ends : (c : After-bytes-above) → next_start 0 (take c.args.index (all_runs c.self.inside.runs)) ≡ c.args.at + 1
ends c = rw (← c.self.view_is) at c.requires.above

begins : (c : After-bytes-above) → BeginsAt (c.args.at + length c.args.bytes.now) (drop c.args.index (all_runs c.self.inside.runs))
begins c = rw (← c.self.view_is) at c.requires.below

within : (c : After-bytes-above) → c.args.index < length (all_runs c.self.inside.runs)
within c = begins_within (all_runs c.self.inside.runs) c.args.index (c.args.at + length c.args.bytes.now) (begins c)

front : (c : After-bytes-above) → c.bytes-below.result.now ≡ (run_at (all_runs c.self.inside.runs) (c.args.index - 1)).bytes
front c =
    let l : c.args.index - 1 < length (all_runs c.self.inside.runs) = omega (arith, within c) in
    rw c.bytes-below.ensures.value (ap (λ run. run.bytes) (found_run (all_runs c.self.inside.runs) (c.args.index - 1) c.get.result.now l c.get.ensures))

upper : (c : After-bytes-above) → c.get-2.result.now ≡ run_at (all_runs c.self.inside.runs) c.args.index
upper c = found_run (all_runs c.self.inside.runs) c.args.index c.get-2.result.now (within c) c.get-2.ensures

-- the run above begins earlier
pub prepend_at-requires-clause-room : goal.prepend_at-requires-clause-room
prepend_at-requires-clause-room c =
    let k = (goal.at.prepend_at-requires-clause-room c).After-bytes-above in
    rw (c.deref.ensures.value, c.in_ok-front.ensures, front k)
    (room_below (all_runs c.self.inside.runs) c.args.index c.args.at c.args.bytes.now (ends k) (begins k))

down : (c : After-remove) → c.bytes-below.result.now ≡ (run_at (all_runs c.self.inside.runs) (c.args.index - 1)).bytes
    → next_start 0 (take c.args.index (all_runs c.self.inside.runs)) ≡ c.args.at + 1
    → BeginsAt (c.args.at + length c.args.bytes.now) (drop c.args.index (all_runs c.self.inside.runs))
    → Places (all_runs c.self.inside.runs) (all_runs c.remove.new.self) c.args.at c.args.bytes.now
down c is above below =
    rw (c.remove.ensures, c.in_ok-prepend_at.ensures.ok, c.deref.ensures.value, c.in_ok-front.ensures, is)
    (bridged_down (all_runs c.self.inside.runs) c.args.index c.args.at c.args.bytes.now c.self.invariant above below)

pub invariant_of-self-then-below-above : goal.invariant_of-self-then-below-above
invariant_of-self-then-below-above c =
    let g = goal.at.invariant_of-self-then-below-above c in
    let k = g.After-bytes-above in
    (down g.After-remove (front k) (ends k) (begins k)).apart

pub returns-then-below-above : goal.returns-then-below-above
returns-then-below-above c =
    let g = goal.at.returns-then-below-above c in
    let k = g.After-bytes-above in
    record { ok = rw (← c.self.view_is) (down g.After-remove (front k) (ends k) (begins k)); err = tt }

-- the run below ends later
pub append_at-requires-clause-room : goal.append_at-requires-clause-room
append_at-requires-clause-room c =
    let k = (goal.at.append_at-requires-clause-room c).After-bytes-above in
    let fits : end_of (run_at (all_runs c.self.inside.runs) c.args.index) ≤ 4294967296 = rw (upper k) at c.bytes-above.ensures.fits in
    rw (c.deref-2.ensures.value, c.in_ok-back.ensures, c.bytes-above.ensures.value, upper k)
    (omega (arith, fits, room_above (all_runs c.self.inside.runs) c.args.index c.args.at c.args.bytes.now (ends k) (begins k)))

up : (c : After-remove-2) → c.get-2.result.now ≡ run_at (all_runs c.self.inside.runs) c.args.index
    → next_start 0 (take c.args.index (all_runs c.self.inside.runs)) ≡ c.args.at + 1
    → BeginsAt (c.args.at + length c.args.bytes.now) (drop c.args.index (all_runs c.self.inside.runs))
    → Places (all_runs c.self.inside.runs) (all_runs c.remove-2.new.self) c.args.at c.args.bytes.now
up c is above below =
    rw (c.remove-2.ensures, c.in_ok-append_at.ensures.ok, c.deref-2.ensures.value, c.in_ok-back.ensures, c.bytes-above.ensures.value, is)
    (bridged (all_runs c.self.inside.runs) c.args.index c.args.at c.args.bytes.now c.self.invariant above below)

pub invariant_of-self-2 : goal.invariant_of-self-2
invariant_of-self-2 c =
    let g = goal.at.invariant_of-self-2 c in
    let k = g.After-bytes-above in
    (up g.After-remove-2 (upper k) (ends k) (begins k)).apart

pub returns : goal.returns
returns c =
    let g = goal.at.returns c in
    let k = g.After-bytes-above in
    record { ok = rw (← c.self.view_is) (up g.After-remove-2 (upper k) (ends k) (begins k)); err = tt }
