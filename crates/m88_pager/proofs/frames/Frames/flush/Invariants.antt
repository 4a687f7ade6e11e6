-- The pages that are left, and those that went out.
use Rattle.std.proofs.Common.{ℕ, List, All, ◌≡◌, ◌<◌, ◌+◌, ◌^◌, is_some, length, map}
use Rattle.m88_pager.specs.Frames.{dirty_count}
use Rattle.m88_pager.specs.Inside.Calls.{PutsOut}
use Rattle.m88_pager.specs.Inside.Seen.{IsWholePage, StillStands, held_by, with_mark}
use Rattle.m88_pager.proofs.frames.Frames.flush.Given as goal

abbrev pub invariant-loop-self : goal.invariant-loop-self
invariant-loop-self g l = record {
  whole : All IsWholePage l.self.cache.entries;
  ins : l.self.ins ≡ l.initial.self.ins;
  few : l.self.outs + length l.self.cache.entries < 2 ^ 32;
  outs : l.self.outs + dirty_count (map with_mark l.self.cache.entries)
      ≡ l.initial.self.outs + dirty_count (map with_mark l.initial.self.cache.entries);
  stands : (original : ℕ → List ℕ) → StillStands original (held_by l.initial.self) l.initial.self.cache.entries
      (g.P.PageStore.pages l.initial.store) (held_by l.self) l.self.cache.entries (g.P.PageStore.pages l.store);
  tells : is_some (g.P.PageStore.pages l.store) ≡ is_some (g.P.PageStore.pages l.initial.store);
  clean : g.P.PageStore.faults l.store ≡ g.P.PageStore.faults l.initial.store;
  written : PutsOut l.initial.self.outs l.self.outs (g.P.PageStore.writes l.initial.store) (g.P.PageStore.writes l.store);
}

abbrev pub decreases-loop-self : goal.decreases-loop-self
decreases-loop-self g l = length l.self.cache.entries
