-- Along the letters of the run, to the moment at which it is over.
use Rattle.std.specs.Borrow.{Bor}
use Rattle.std.specs.Prelude.{ℕ, List, false, length, ◌≡◌}
use Rattle.std.proofs.Common.{arith, refl, sym, ap, subst, ◌∙◌}
use Rattle.std.proofs.lemmas.Result.{IfOk-weaker}
use Rattle.m88_board.specs.Board.{BoardView}
use Rattle.m88_board.specs.Moves.{IsAt}
use Rattle.m88_event.proofs.Laws.{one_outcome}
use Rattle.m88_event.specs.Run.{IsOutcome, moment_after, outcome_at}
use Rattle.m88_event.specs.Timeline.{Run, opening_moment, run_with}
use Rattle.m88_event.specs.declared.letter.Letter.{Letter}
use Rattle.m88_mem.specs.DataBus.{image_bytes}
use Rattle.m88_mem.specs.Marks.{absent_in}
use Rattle.m88_pager.proofs.CameTo.{ends}
use Rattle.m88_pager.proofs.Laws.{one_retired}
use Rattle.m88_pager.proofs.Written.{all_put, then_put}
use Rattle.m88_pager.specs.Inside.Calls.{PutsOut}
use Rattle.m88_pager.proofs.Walking.{bytes_there, none_carried, none_within, over_shown, tells_on, there_first, there_next}
use Rattle.m88_pager.proofs.running.page_run.Goals as goal

pub loop-walk-init : goal.loop-walk-init
loop-walk-init g c =
    let made = c.in_ok-board.ensures in
    let opened = c.in_ok-paging.ensures in
    let bytes = bytes_there c.args.image.now c.new.ensures.is_image in
    let cap = opened.cap ∙ c.count_of.ensures in
    record {
      limit = ap (λ (b : BoardView). b.limit) c.new-walk.ensures.board ∙ made.limit;
      schedule = c.new-walk.ensures.schedule;
      lender = refl;
      within = none_within c.new-walk.result.board.now.done opened;
      cap = cap;
      tells = refl;
      clean = refl;
      written =
          subst (λ (n : ℕ). PutsOut 0 n (g.P.PageStore.writes c.args.store.now) (g.P.PageStore.writes c.args.store.now)) (sym opened.outs) refl;
      there = λ p of clear.
          let r : Run = run_with p (absent_in c.args.absent.now) c.args.limit c.args.schedule.now in
          there_first r c.new-walk.result.taken (image_bytes c.args.image.now)
          c.args.frames c.new-walk.result.board.now c.in_ok-paging.paging (g.P.PageStore.pages c.args.store.now)
          c.new-walk.ensures.taken
          (subst (λ (b : BoardView). IsAt r opening_moment b) (sym c.new-walk.ensures.board)
          (made.at p c.args.schedule.now of clear))
          (none_carried (image_bytes c.args.image.now) c.args.frames c.in_ok-paging.paging
          (g.P.PageStore.pages c.args.store.now) bytes cap opened c.requires.empty);
    }

pub loop-walk-preserved : goal.loop-walk-preserved
loop-walk-preserved g c =
    let inv = c.loop-walk.invariant in
    let stepped = c.in_ok-step.ensures.stepped in
    let goes = over_shown c.board-in-loop-walk.ensures c.is_over.ensures.value ∙ c.loop-walk-test.true in
    record {
      limit = stepped.stays.same.limit ∙ inv.limit;
      schedule = ap (λ (s : Bor (List Letter)). s.now) stepped.stays.schedule ∙ inv.schedule;
      lender = stepped.stays.lender ∙ inv.lender;
      within = stepped.within;
      cap = stepped.carried.cap ∙ inv.cap;
      tells = c.step.ensures.store.uses.tells ∙ inv.tells;
      clean = c.in_ok-step.ensures.store.uses.clean ∙ inv.clean;
      written = then_put 0 _ _ _ _ _ inv.written c.in_ok-step.ensures.store.written;
      there = λ p of clear.
          there_next inv.schedule stepped.taken goes (inv.there p of clear) (λ m at. stepped.at _ m at)
          (stepped.carried.carried c.args.frames);
    }

pub step-requires : goal.step-requires
step-requires g c =
    let some = c.new.ensures.program in
    let r : Run = run_with some.0 (absent_in c.args.absent.now) c.args.limit c.args.schedule.now in
    record {
      going = over_shown c.board-in-loop-walk.ensures c.is_over.ensures.value ∙ c.loop-walk-test.true;
      there = (
        r,
        moment_after r c.loop-walk.walk.taken,
        (c.loop-walk.invariant.there some.0 some.1 some.2).at,
      );
      within = c.loop-walk.invariant.within;
    }

pub returns-clause-run : goal.returns-clause-run
returns-clause-run g c = IfOk-weaker c.finish.result _ _
    (λ o finished p of clear.
    let inv = c.loop-walk.invariant in
    let r : Run = run_with p (absent_in c.args.absent.now) c.args.limit c.args.schedule.now in
    let k = c.loop-walk.walk.taken in
    let over = over_shown c.board-in-loop-walk.ensures c.is_over.ensures.value ∙ c.loop-walk-test.false in
    let ended = ends r c.args.image.now c.new.ensures.is_image of over (inv.there p of clear)
    (c.board-in-loop-walk-1.given.1 (sym (inv.lender ∙ c.new-walk.ensures.lender))) finished in
    let changed = (outcome_at p (moment_after r k)).changed in
    let but_words : IsOutcome r (record o.outcome { changed = changed }) =
    record { events = k; run = ended.0; value = ended.1.but_words } in
    record {
      outcome = λ tells.
          record { events = k; run = ended.0; value = ended.1.outcome (tells_on _ _ (c.finish.ensures.store.tells ∙ inv.tells) tells) };
      but_words = (changed, but_words);
      counts = ended.1.counts;
      alone = λ others letters other run.
          one_retired r others letters other (record o.outcome { changed = changed }) run but_words;
      held = ended.1.pages;
      written = all_put o.outs _ _ (then_put 0 _ _ _ _ _ inv.written finished.written);
    })
    c.finish.ensures.finished

pub returns-clause-only : goal.returns-clause-only
returns-clause-only g c = λ r o other. one_outcome r o other

pub returns-clause-within : goal.returns-clause-within
returns-clause-within g c = IfOk-weaker c.finish.result _ _
    (λ o finished.
    let inv = c.loop-walk.invariant in
    let room = c.loop-walk.walk.bounded.room in
    let events = finished.events in
    let lent = ap (λ (b : BoardView). b.events)
    (c.board-in-loop-walk-1.given.1 (sym (inv.lender ∙ c.new-walk.ensures.lender))) in
    let limit = inv.limit in
    let letters = ap (λ (s : List Letter). length s) inv.schedule in
    omega (arith, room, events, lent, limit, letters))
    c.finish.ensures.finished
