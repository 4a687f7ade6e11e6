-- The words of the pages so far.
use Rattle.std.proofs.Common.{◌≡◌, ◌≤◌, ◌-◌, ◌*◌}
use Rattle.std.specs.BTreeSet.{contains}
use Rattle.std.specs.Ordering.{nat_cmp}
use Rattle.m88_base.specs.Pages.{page_count}
use Rattle.m88_mem.specs.DataBus.{image_bytes, page_words}
use Rattle.m88_pager.specs.Inside.Told.{AreChanged}
use Rattle.m88_pager.proofs.changed.changed_words.Given as goal

abbrev pub invariant-loop-page : goal.invariant-loop-page
invariant-loop-page g l = record {
  changed : AreChanged (image_bytes l.image) (λ q. contains nat_cmp l.held q) (g.P.PageStore.pages l.initial.store)
      (l.from * page_words) l.changed.items;
  within : l.from ≤ page_count;
  same : g.P.PageStore.pages l.store ≡ g.P.PageStore.pages l.initial.store;
  unwritten : g.P.PageStore.writes l.store ≡ g.P.PageStore.writes l.initial.store;
  clean : g.P.PageStore.faults l.store ≡ g.P.PageStore.faults l.initial.store;
}

abbrev pub decreases-loop-page : goal.decreases-loop-page
decreases-loop-page g l = page_count - l.from
