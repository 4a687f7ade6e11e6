-- Each page that is held, in order.
use Rattle.std.specs.BTreeSet.{contains}
use Rattle.std.specs.Ordering.{nat_cmp}
use Rattle.std.specs.Prelude.{ℕ, Option, ◌+◌, ◌*◌}
use Rattle.std.proofs.Common.{arith, subst, ◌∙◌}
use Rattle.m88_isa.specs.Bus.{changed_among}
use Rattle.m88_mem.specs.DataBus.{image_bytes}
use Rattle.m88_pager.proofs.Changing.{none_up}
use Rattle.m88_pager.specs.Inside.Told.{AreChanged}
use Rattle.m88_pager.specs.Store.{PageMap}
use Rattle.m88_pager.proofs.changed.changed_words.Goals as goal

pub loop-page-init : goal.loop-page-init
unfolding changed_among
loop-page-init g c = record {
  changed = λ bus written s bytes news. c.new-changed.ensures.items;
  within = omega arith;
  same = λ i. g.P.PageStore.pages c.args.store.now;
  unwritten = λ i. g.P.PageStore.writes c.args.store.now;
  clean = λ i. g.P.PageStore.faults c.args.store.now;
}

pub loop-page-preserved : goal.loop-page-preserved
loop-page-preserved g c =
    let inv = c.loop-page.invariant in
    let found = c.in-Some.ensures.next in
    let page = found.number in
    let held = λ (q : ℕ). contains nat_cmp c.args.held.now q in
    let original = image_bytes c.args.image.now in
    let up = none_up original held (g.P.PageStore.pages c.args.store.now) c.loop-page.from c.in-Some.page c.loop-page.changed.items found.behind found.next inv.changed in
    let step = subst (λ (told : Option PageMap).
    AreChanged original held told (c.in-Some.page * 1024) c.loop-page.changed.items
    → AreChanged original held told ((c.in-Some.page + 1) * 1024) c.append_page.new.changed.items) inv.same
    (c.in_ok-append_page.ensures.changed held found.held_is) in
    record {
      changed = step up;
      within = omega (arith, page);
      same = c.append_page.ensures.store.same ∙ inv.same;
      unwritten = c.append_page.ensures.store.unwritten ∙ inv.unwritten;
      clean = c.in_ok-append_page.ensures.store.clean ∙ inv.clean;
    }

pub returns-clause-changed : goal.returns-clause-changed
returns-clause-changed g c =
    let inv = c.loop-page.invariant in
    none_up (image_bytes c.args.image.now) (λ q. contains nat_cmp c.args.held.now q) (g.P.PageStore.pages c.args.store.now)
    c.loop-page.from 1048576 c.loop-page.changed.items inv.within c.in_default.ensures.none inv.changed
