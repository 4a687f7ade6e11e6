-- One page less, until none is left.
use Rattle.std.specs.Prelude.{ℕ, Bool, List, All, ◌≡◌, ◌+◌, ◌-◌, length, map, slice_get, take}
use Rattle.std.proofs.Common.{arith, length-take, sym, ap, subst, ◌∙◌}
use Rattle.m88_pager.proofs.Counts.{same_length}
use Rattle.m88_pager.proofs.Written.{then_put}
use Rattle.m88_pager.proofs.Flushing.{at_most_one, dirty_left, none_dirty, none_left, whole_front}
use Rattle.m88_pager.specs.Frames.{Frames as FramesSeen, dirty_count, one_if_dirty}
use Rattle.m88_pager.specs.Inside.Seen.{IsWholePage, with_mark}
use Rattle.m88_pager.specs.declared.frames.Frame.{Frame}
use Rattle.m88_pager.proofs.frames.Frames.flush.Goals as goal

pub loop-self-preserved : goal.loop-self-preserved
loop-self-preserved g c =
    let inv = c.loop-self.invariant in
    let f = c.loop-self.self in
    let now = c.leave.new.self in
    let pages : List (ℕ × Bool) = map with_mark f.cache.entries in
    let long : length pages ≡ length f.cache.entries = same_length f.cache.entries in
    let there = c.loop-self-test.true in
    let len = c.len.ensures.len in
    let went = c.in_ok-leave.ensures.left in
    let left = went.left in
    let counts = went.counts in
    let outs : now.outs ≡ f.outs + one_if_dirty (slice_get pages (length pages - 1)) = ap (λ (s : FramesSeen). s.outs) counts in
    let ins : now.ins ≡ f.ins = ap (λ (s : FramesSeen). s.ins) counts in
    let dirty : dirty_count (map with_mark now.cache.entries) ≡ dirty_count (take (length pages - 1) pages) =
    ap (λ (s : FramesSeen). dirty_count s.pages) counts in
    let sum = dirty_left pages (omega (arith, long, there, len)) in
    let most = at_most_one (slice_get pages (length pages - 1)) in
    let shorter : length now.cache.entries ≡ length (take (length f.cache.entries - 1) f.cache.entries) =
    ap (λ (es : List (ℕ × Frame)). length es) left in
    let taken = length-take (length f.cache.entries - 1) f.cache.entries in
    let few = inv.few in
    let so_far = inv.outs in
    record {
      whole = subst (All IsWholePage) (sym left) (whole_front (length f.cache.entries - 1) f.cache.entries inv.whole);
      ins = ins ∙ inv.ins;
      few = omega (arith, few, outs, most, shorter, taken, there, len);
      outs = omega (arith, so_far, outs, dirty, sum);
      stands = λ original memory written s. went.stands original memory written (inv.stands original memory written s);
      tells = c.leave.ensures.store.uses.tells ∙ inv.tells;
      clean = c.in_ok-leave.ensures.store.uses.clean ∙ inv.clean;
      written = then_put _ _ _ _ _ _ inv.written c.in_ok-leave.ensures.store.written;
    }

pub returns-clause-flushed : goal.returns-clause-flushed
returns-clause-flushed g c =
    let inv = c.loop-self.invariant in
    let so_far = inv.outs in
    let empty = none_left c.loop-self.self.cache.entries (omega (arith, c.loop-self-test.false, c.len.ensures.len)) in
    let none = none_dirty (map with_mark c.loop-self.self.cache.entries) (ap (λ (es : List (ℕ × Frame)). length (map with_mark es)) empty) in
    record { empty = empty; ins = inv.ins; outs = omega (arith, so_far, none); stands = inv.stands }
