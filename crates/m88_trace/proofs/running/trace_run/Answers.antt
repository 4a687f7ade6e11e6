-- Event by event, to the moment at which the run is over.
use Rattle.std.proofs.Common.{ℕ, List, Bor, ◌≡◌, ◌+◌, false, true, refl, sym, ap, subst, ◌∙◌}
use Rattle.m88_event.specs.Bound.{one_if}
use Rattle.m88_event.specs.Local.{is_over_by}
use Rattle.m88_event.specs.Run.{moment_after}
use Rattle.m88_event.specs.Timeline.{Moment, Run, is_over, opening_moment, run_with}
use Rattle.m88_event.specs.declared.letter.Letter.{Letter}
use Rattle.m88_isa.proofs.Laws.{program_of_image}
use Rattle.m88_mem.specs.Marks.{absent_in}
use Rattle.m88_board.specs.Board.{BoardView, local_of}
use Rattle.m88_board.specs.Moves.{IsAt}
use Rattle.m88_trace.proofs.Runs.{over_alone, over_empty, over_seen, over_text, runs_first, runs_next}
use Rattle.m88_trace.proofs.running.trace_run.Goals as goal

pub loop-walk-init : goal.loop-walk-init
loop-walk-init c = record {
  limit = ap (λ (b : BoardView). b.limit) c.new-walk.ensures.board ∙ c.in_ok-board.ensures.limit;
  schedule = c.new-walk.ensures.schedule;
  made = c.new-sheet.ensures.made;
  runs = λ p of clear.
      let r : Run = run_with p (absent_in c.args.absent.now) c.args.limit c.args.schedule.now in
      runs_first r c.new-walk.result.taken c.new-walk.result.board.now c.new-sheet.result c.new-walk.ensures.taken
      (subst (λ (b : BoardView). IsAt r opening_moment b) (sym c.new-walk.ensures.board)
      (c.in_ok-board.ensures.at p c.args.schedule.now of clear))
      c.new-sheet.ensures.text c.new-sheet.ensures.waiting;
}

pub loop-walk-preserved : goal.loop-walk-preserved
loop-walk-preserved c =
    let inv = c.loop-walk.invariant in
    let stepped = c.in_ok-step.ensures in
    record {
      limit = stepped.stays.same.limit ∙ inv.limit;
      schedule = ap (λ (s : Bor (List Letter)). s.now) stepped.stays.schedule ∙ inv.schedule;
      made = stepped.made;
      runs = λ p of clear.
          let r : Run = run_with p (absent_in c.args.absent.now) c.args.limit c.args.schedule.now in
          let m : Moment = moment_after r c.loop-walk.walk.taken in
          let runs = inv.runs p of clear in
          let goes : is_over r m ≡ false =
          over_seen r m c.board.result.now c.loop-walk.walk.board.now c.is_over.result c.board.ensures runs.at
          (c.is_over.ensures.moment r m) ∙ c.loop-walk-test.true in
          runs_next r inv.schedule stepped.taken runs goes
          (stepped.at r m runs.at)
          (stepped.traced r m (program_of_image c.args.image.now p c.new.ensures.is_image of) runs.at runs.traced);
    }

pub returns-clause-run : goal.returns-clause-run
returns-clause-run c = λ p of clear.
    let r : Run = run_with p (absent_in c.args.absent.now) c.args.limit c.args.schedule.now in
    let m : Moment = moment_after r c.loop-walk.walk.taken in
    let runs = c.loop-walk.invariant.runs p of clear in
    let over : is_over r m ≡ true =
    over_seen r m c.board.result.now c.loop-walk.walk.board.now c.is_over.result c.board.ensures runs.at
    (c.is_over.ensures.moment r m) ∙ c.loop-walk-test.false in
    record {
      events = c.loop-walk.walk.taken;
      run = record { here = over; first = runs.first };
      value = c.finish.ensures _ (over_empty r m c.loop-walk.sheet runs.traced over) ∙ runs.traced.text;
    }

pub returns-clause-alone : goal.returns-clause-alone
returns-clause-alone c = λ p of clear.
    let r : Run = run_with p (absent_in c.args.absent.now) c.args.limit c.args.schedule.now in
    let m : Moment = moment_after r c.loop-walk.walk.taken in
    let runs = c.loop-walk.invariant.runs p of clear in
    let over : is_over r m ≡ true =
    over_seen r m c.board.result.now c.loop-walk.walk.board.now c.is_over.result c.board.ensures runs.at
    (c.is_over.ensures.moment r m) ∙ c.loop-walk-test.false in
    c.finish.ensures _ (over_empty r m c.loop-walk.sheet runs.traced over) ∙ runs.traced.text
    ∙ over_alone r m runs.at.past over

pub returns-clause-checked : goal.returns-clause-checked
returns-clause-checked c = λ p of clear.
    let r : Run = run_with p (absent_in c.args.absent.now) c.args.limit c.args.schedule.now in
    let m : Moment = moment_after r c.loop-walk.walk.taken in
    let runs = c.loop-walk.invariant.runs p of clear in
    let over : is_over r m ≡ true =
    over_seen r m c.board.result.now c.loop-walk.walk.board.now c.is_over.result c.board.ensures runs.at
    (c.is_over.ensures.moment r m) ∙ c.loop-walk-test.false in (
      m.retired + one_if m.ended,
      over_text r m c.finish.result.items runs.at.past
          (c.finish.ensures _ (over_empty r m c.loop-walk.sheet runs.traced over) ∙ runs.traced.text),
    )

pub step-requires-clause-going : goal.step-requires-clause-going
step-requires-clause-going c =
    ap (λ (b : BoardView). is_over_by b.limit (local_of b)) (sym c.board.ensures) ∙ sym c.is_over.ensures.value
    ∙ c.loop-walk-test.true
