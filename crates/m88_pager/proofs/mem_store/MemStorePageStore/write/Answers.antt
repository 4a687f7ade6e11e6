-- The page joins those that are held.
use Rattle.std.proofs.Common.{ℕ, List, ap, ap₂, arith, ◌∙◌, Some, rules}
use Rattle.std.specs.FinMap.{insert}
use Rattle.m88_pager.proofs.Held.{put_held}
use Rattle.m88_pager.specs.MemoryPages.{MemoryPages}
use Rattle.m88_pager.specs.Store.{PageMap}
use Rattle.m88_pager.proofs.mem_store.MemStorePageStore.write.Goals as goal

pub returns-in-Ok-insert-clause-written : goal.returns-in-Ok-insert-clause-written
returns-in-Ok-insert-clause-written c = record {
  put = ap Some
      (put_held c.self.inside.pages c.insert.new.self c.args.page c.in-Ok.copy c.in-Ok-insert.ensures.updates.0
      ∙ ap₂ (λ (held : PageMap) (bytes : List ℕ). insert held c.args.page bytes)
      (ap (λ (s : MemoryPages). s.held) c.self.view_is ∙ c.in_ok-count.ensures.held)
      c.in-Ok.ensures.items);
  counted = search rules;
  same = tt;
  uncounted = tt;
  clean = search rules;
  grows =
      let more = c.in_ok-count.ensures.counts.grows in
      let same = ap (λ (s : MemoryPages). s.faults) c.self.view_is in
      omega (arith, more, same);
  fault = search rules;
}
