-- One event of the route after the other, until it stops.
use Rattle.std.proofs.Common.{ℕ, arith, ap, ap₂, subst, sym, ◌∙◌, ◌-◌, ◌≡◌}
use Rattle.std.proofs.lemmas.Result.{err_from_is_err_and}
use Rattle.m88_event.specs.Timeline.{Moment}
use Rattle.m88_board.proofs.Routes.{bounded_at_first, bounded_behind}
use Rattle.m88_board.proofs.Still.{same_run, same_then}
use Rattle.m88_board.proofs.Walking.{goes_start, goes_step, stops_there}
use Rattle.m88_board.specs.Board.{BoardView}
use Rattle.m88_board.specs.Inside.Routes.{IsBoundedBy, letters_by, moments_by}
use Rattle.m88_board.specs.Kept.{IsKept}
use Rattle.m88_board.specs.Moves.{IsAt, IsSameRun}
use Rattle.m88_board.proofs.board.Board.follow.Goals as goal

pub loop-letter-init : goal.loop-letter-init
loop-letter-init g c = record {
  begun = subst IsKept c.self.view_is c.self.invariant;
  first = ap (λ (b : BoardView). b.events) c.self.view_is;
  counted = omega arith;
  same = same_run c.args.self.now;
  bounded = bounded_at_first c.args.route c.args.self.now c.requires;
  goes = λ r m at.
      goes_start c.args.route r m (c.args.self.now.events - c.args.self.now.events)
      (g.W.Watch.seen c.args.watch.now) c.args.self.now (omega arith) at;
}

-- so many events were made
made_so : {a b c d : ℕ} → b ≡ d → a ≡ c → a - b ≡ c - d
made_so begun seen = ap₂ (λ m n. m - n) seen begun

pub loop-letter-preserved : goal.loop-letter-preserved
loop-letter-preserved g c =
    let inv = c.loop-letter.invariant in
    let event = c.in_ok-step.ensures.happens.happens in
    let counted = inv.counted in
    let one = event.counted in
    let made = c.loop-letter.self.events - c.args.self.now.events in
    let place = made_so inv.first (ap (λ (b : BoardView). b.events) c.self-in-loop-letter.view_is) in
    let is = c.in-Some.ensures.letter ∙ ap (letters_by c.args.route) place in
    record {
      begun = inv.begun;
      first = inv.first;
      counted = omega (arith, counted, one);
      same = same_then c.args.self.now c.loop-letter.self c.step.new.self inv.same event.same;
      bounded =
          bounded_behind c.args.route c.in-Some.letter c.args.self.now c.loop-letter.self _ c.step.new.self inv.bounded
          c.in-Some.ensures.going counted is event;
      goes = λ r m at.
          let goes = inv.goes r m at in
          let here : Moment = moments_by c.args.route r m made in
          goes_step c.args.route r m made (c.step.new.self.events - c.args.self.now.events) _ _ _
          c.in-Some.letter c.loop-letter.self c.step.new.self (omega (arith, counted, one)) is goes
          (stops_there c.args.route r m _ made _ place
          (c.in-Some.ensures.moment r here goes.along.at))
          (c.in_ok-step.ensures.happens.ok r here goes.along.at);
    }

pub returns-in_err-step-clause-err : goal.returns-in_err-step-clause-err
returns-in_err-step-clause-err g c =
    let is = err_from_is_err_and c.from_residual.result c.from_residual.ensures.1 in
    rw (is.1) (λ r m at.
    let inv = c.loop-letter.invariant in
    let goes = inv.goes r m at in
    let made = c.loop-letter.self.events - c.args.self.now.events in
    let still = c.in_err-step.ensures.happens in
    let counted = inv.counted in
    let events = ap (λ (b : BoardView). b.events) still in (
      made,
      goes.first,
      record {
        at = subst (λ (b : BoardView). IsAt r (moments_by c.args.route r m made) b)
            (sym still) goes.along.at;
        saw = rw c.in_err-step.ensures.unseen goes.along.saw;
      },
      omega (arith, counted, events),
    ))

pub returns-in_err-step-clause-bounded : goal.returns-in_err-step-clause-bounded
returns-in_err-step-clause-bounded g c =
    subst (λ (b : BoardView). IsBoundedBy c.args.route c.args.self.now b) (sym c.in_err-step.ensures.happens)
    c.loop-letter.invariant.bounded

pub returns-in_err-step-clause-same : goal.returns-in_err-step-clause-same
returns-in_err-step-clause-same g c =
    subst (λ (b : BoardView). IsSameRun c.args.self.now b) (sym c.in_err-step.ensures.happens)
    c.loop-letter.invariant.same

pub returns-clause-ok : goal.returns-clause-ok
returns-clause-ok g c = λ r m at.
    let inv = c.loop-letter.invariant in
    let goes = inv.goes r m at in
    let counted = inv.counted in
    let made = c.loop-letter.self.events - c.args.self.now.events in (
      made,
      record {
        here =
            stops_there c.args.route r m _ made _
            (made_so inv.first (ap (λ (b : BoardView). b.events) c.self-in-loop-letter.view_is))
            (c.in_default.ensures.moment r (moments_by c.args.route r m made) goes.along.at);
        first = goes.first;
      },
      goes.along,
      omega (arith, counted),
    )
