-- The outcome of the moment, with the words that the store has.
use Rattle.std.specs.Prelude.{ℕ, List, Option}
use Rattle.std.proofs.Common.{sym, subst}
use Rattle.m88_event.specs.declared.outcome.Outcome.{Outcome}
use Rattle.m88_pager.proofs.CameTo.{came_to}
use Rattle.m88_pager.specs.Inside.Calls.{PutsOut}
use Rattle.m88_pager.specs.Inside.Came.{CameTo}
use Rattle.m88_pager.specs.Store.{PageMap}
use Rattle.m88_pager.proofs.running.finish.Goals as goal

pub returns-clause-finished : goal.returns-clause-finished
returns-clause-finished g c =
    let flushed = c.flush.new.self in
    let o : Outcome = c.in_ok-outcome.outcome in
    let words = c.in_ok-changed.changed.items in
    record {
      came = λ r m most is same at over carried.
          subst (λ (xs : List (ℕ × ℕ)). CameTo r.program most m (record { outcome = record o { changed = xs }; ins = flushed.ins; outs = flushed.outs }) (g.P.PageStore.pages c.changed_words.new.store))
          (sym c.new.ensures)
          (subst (λ (told : Option PageMap). CameTo r.program most m (record { outcome = record o { changed = words }; ins = flushed.ins; outs = flushed.outs }) told)
          (sym c.in_ok-changed.ensures.store.same)
          (came_to r.program m most c.args.image.now c.args.paging flushed o words (g.P.PageStore.pages c.args.store.now)
          (g.P.PageStore.pages c.flush.new.store) is same (c.in_ok-outcome.ensures.moment r m at over) carried
          c.in_ok-flush.ensures.flushed c.in_ok-changed.ensures.changed));
      events = c.in_ok-outcome.ensures.events;
      written =
          subst (PutsOut c.args.paging.outs flushed.outs (g.P.PageStore.writes c.args.store.now))
          (sym c.in_ok-changed.ensures.store.unwritten) c.in_ok-flush.ensures.store.written;
    }
