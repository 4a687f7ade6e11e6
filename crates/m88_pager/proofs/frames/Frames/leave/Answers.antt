-- The last frame, clean or dirty.
use Rattle.std.specs.Prelude.{ℕ, List, Option, Some, ◌≡◌, ◌+◌, ◌-◌, length, map, option_map, take}
use Rattle.std.proofs.Common.{arith, sym, ap, subst, ◌∙◌}
use Rattle.std.specs.FinMap.{insert}
use Rattle.lru.specs.LruCache.{LruCache}
use Rattle.m88_pager.proofs.Counts.{frames_at, left_seen}
use Rattle.m88_pager.proofs.Layers.{all_at}
use Rattle.m88_pager.proofs.Standing.{stands_clean, stands_dirty}
use Rattle.m88_pager.specs.Frames.{one_if_dirty}
use Rattle.m88_pager.specs.Inside.Contents.{StandWhereTold}
use Rattle.m88_pager.specs.Inside.Seen.{IsWholePage, held_by, with_mark}
use Rattle.m88_pager.specs.Store.{IsPageOf, PageMap}
use Rattle.m88_pager.specs.declared.frames.Frame.{Frame}
use Rattle.m88_pager.proofs.frames.Frames.leave.Goals as goal

pub put_out-requires : goal.put_out-requires
put_out-requires g c = record {
  whole =
      subst (IsPageOf c.in-Some.page) (sym c.deref.ensures.value)
      (all_at IsWholePage c.args.self.now.cache.entries _ (c.in-Some.page, c.in-Some.frame) c.requires.whole (sym c.in-Some.ensures.value));
  few = c.requires.few;
}

pub returns-then-not-frame-clause-left : goal.returns-then-not-frame-clause-left
returns-then-not-frame-clause-left g c =
    let f = c.args.self.now in
    let told = g.P.PageStore.pages c.args.store.now in
    let e : ℕ × Frame = (c.in-Some.page, c.in-Some.frame) in
    let none : f.outs ≡ f.outs + one_if_dirty (Some (with_mark e)) = rw c.if-not-frame.true (omega arith) in
    let entries = ap (λ (s : LruCache ℕ Frame). s.entries) c.pop_lru.ensures.entries in
    record {
      size = (all_at IsWholePage f.cache.entries _ e c.requires.whole (sym c.in-Some.ensures.value)).size;
      left = entries;
      counts =
          (λ i. frames_at (map with_mark (entries i)) f.ins (none i))
          ∙ left_seen f.cache.entries e f.ins f.outs (sym c.in-Some.ensures.value);
      cap = ap (λ (s : LruCache ℕ Frame). s.cap) c.pop_lru.ensures.entries;
      stands = λ original memory written s.
          subst (λ (ys : List (ℕ × Frame)). StandWhereTold original memory written (held_by f) ys told) (sym entries)
          (stands_clean original memory written (held_by f) f.cache.entries e told (sym c.in-Some.ensures.value) c.if-not-frame.true s);
    }

pub returns-clause-left : goal.returns-clause-left
returns-clause-left g c =
    let f = c.args.self.now in
    let told = g.P.PageStore.pages c.args.store.now in
    let e : ℕ × Frame = (c.in-Some.page, c.in-Some.frame) in
    let one : f.outs + 1 ≡ f.outs + one_if_dirty (Some (with_mark e)) = rw c.if-not-frame.false (omega arith) in
    let out = c.in_ok-put_out.ensures.out in
    let entries = ap (λ (s : LruCache ℕ Frame). s.entries) (out.cache ∙ c.pop_lru.ensures.entries) in
    record {
      size = (all_at IsWholePage f.cache.entries _ e c.requires.whole (sym c.in-Some.ensures.value)).size;
      left = entries;
      counts =
          (λ i. frames_at (map with_mark (entries i)) (out.ins i) ((out.outs ∙ one) i))
          ∙ left_seen f.cache.entries e f.ins f.outs (sym c.in-Some.ensures.value);
      cap = ap (λ (s : LruCache ℕ Frame). s.cap) (out.cache ∙ c.pop_lru.ensures.entries);
      stands = λ original memory written s.
          subst (λ (ys : List (ℕ × Frame)). StandWhereTold original memory written (held_by c.put_out.new.self) ys (g.P.PageStore.pages c.put_out.new.store))
          (sym entries)
          (subst (λ (now : Option PageMap). StandWhereTold original memory written (held_by c.put_out.new.self) (take (length f.cache.entries - 1) f.cache.entries) now)
          (sym (out.put ∙ ap (λ (bytes : List ℕ). option_map (λ (pages : PageMap). insert pages c.in-Some.page bytes) told) c.deref.ensures.value))
          (stands_dirty original memory written (held_by f) (held_by c.put_out.new.self) f.cache.entries e told (sym c.in-Some.ensures.value)
          c.len.ensures.valid.0 c.if-not-frame.false out.held s));
    }
