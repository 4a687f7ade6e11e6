-- The run is over after its events, and came to what the moment says.
use Rattle.std.proofs.Common.{ap, arith, refl, subst, sym, true, ℕ, Bool, ◌≡◌, ◌↔◌, ◌+◌, ◌∙◌}
use Rattle.std.proofs.lemmas.Result.{IfOk-weaker}
use Rattle.m88_event.proofs.Laws.{drained_bus}
use Rattle.m88_event.specs.Run.{HasEvents, IsFirst, IsOutcome, NotBefore, moment_after, outcome_at}
use Rattle.m88_event.specs.Timeline.{Moment, Run, is_over, opening_moment}
use Rattle.m88_event.specs.declared.happened.End.TheVariants.{Limit}
use Rattle.m88_event.specs.declared.outcome.Outcome.{Outcome}
use Rattle.m88_isa.specs.History.{transaction_count}
use Rattle.m88_board.proofs.AtMoment.{events_at, relettered}
use Rattle.m88_board.proofs.Walking.{along_events, on_err, run_went}
use Rattle.m88_board.specs.Board.{BoardView}
use Rattle.m88_board.specs.Glances.{Saw, glances_along}
use Rattle.m88_board.specs.Moves.{IsAlong, IsAt}
use Rattle.m88_event.specs.Letters.{letter_at}
use Rattle.m88_board.proofs.board.Board.run.Given.{Over}
use Rattle.m88_board.proofs.board.Board.run.Goals as goal

-- the walk went along the run's events to its end
went : (g : Over) (c : goal.After-outcome g) (r : Run) → r.schedule ≡ c.args.schedule.now → IsAt r opening_moment c.args.self →
    (events : ℕ) × HasEvents r events
    × IsAlong r (moment_after r) events (g.W.Watch.seen c.args.watch.now) (g.W.Watch.seen c.go_until.new.watch)
    c.go_until.new.self.board.now
went g c r own at =
    let walked = c.in_ok-go_until.ensures.ok r opening_moment (own ∙ sym c.new-walk.ensures.schedule)
    (subst (λ (b : BoardView). IsAt r opening_moment b) (sym c.new-walk.ensures.board) at) in
    let run = run_went (λ over moments. IsFirst over walked.0
    × IsAlong r moments walked.0 (g.W.Watch.seen c.args.watch.now) (g.W.Watch.seen c.go_until.new.watch)
    c.go_until.new.self.board.now) r _ c.new-walk.ensures.taken (walked.1, walked.2) in
    (walked.0, run.0, run.1)

pub returns-clause-outcome : goal.returns-clause-outcome
returns-clause-outcome g c =
    let lent = c.self-2-1.given.1 (sym (c.go_until.ensures.stays.lender ∙ c.new-walk.ensures.lender)) in
    IfOk-weaker c.outcome.result
    (λ (o : Outcome). (r : Run) (m : Moment) → IsAt r m c.self-2-1.given.0 → is_over r m ≡ true → o ≡ outcome_at r.program m)
    (λ (o : Outcome). (r : Run) → r.schedule ≡ c.args.schedule.now → IsAt r opening_moment c.args.self → IsOutcome r o)
    (λ o value r own at.
    let run = went g c r own at in
    let last = moment_after r run.0 in
    record {
      events = run.0;
      run = run.1;
      value = value r last (subst (λ (b : BoardView). IsAt r last b) (sym lent) run.2.at) run.1.here;
    })
    c.outcome.ensures.moment

pub returns-clause-limit_end : goal.returns-clause-limit_end
returns-clause-limit_end g c =
    let lent = c.self-2-1.given.1 (sym (c.go_until.ensures.stays.lender ∙ c.new-walk.ensures.lender)) in
    let limit = ap (λ (b : BoardView). b.limit) lent ∙ c.go_until.ensures.stays.same.limit
    ∙ ap (λ (b : BoardView). b.limit) c.new-walk.ensures.board in
    IfOk-weaker c.outcome.result
    (λ (o : Outcome). (r : Run) (m : Moment) → IsAt r m c.self-2-1.given.0 → is_over r m ≡ true
    → (o.end ≡ Limit) ↔ (o.retired ≡ c.self-2-1.given.0.limit))
    (λ (o : Outcome). (r : Run) → IsAt r opening_moment c.args.self → (o.end ≡ Limit) ↔ (o.retired ≡ c.args.self.limit))
    (λ o limited r at.
    let own : Run = record r { schedule = c.args.schedule.now } in
    let run = went g c own refl (relettered r c.args.schedule.now opening_moment c.args.self at) in
    let last = moment_after own run.0 in
    subst (λ (n : ℕ). (o.end ≡ Limit) ↔ (o.retired ≡ n)) limit
    (limited own last (subst (λ (b : BoardView). IsAt own last b) (sym lent) run.2.at) run.1.here))
    c.outcome.ensures.limit_end

pub returns-clause-watched : goal.returns-clause-watched
returns-clause-watched g c =
    let end = c.go_until.new.self.board.now in
    let lent = c.self-2-1.given.1 (sym (c.go_until.ensures.stays.lender ∙ c.new-walk.ensures.lender)) in
    IfOk-weaker c.outcome.result
    (λ (o : Outcome). o.events ≡ c.self-2-1.given.0.events)
    (λ (o : Outcome). (r : Run) → r.schedule ≡ c.args.schedule.now → IsAt r opening_moment c.args.self
    → Saw (g.W.Watch.seen c.args.watch.now) (g.W.Watch.seen c.go_until.new.watch)
    (glances_along r.program (moment_after r) o.events))
    (λ o counted r own at.
    let run = went g c r own at in
    let last = moment_after r run.0 in
    let made : last.events ≡ 0 + run.0 = along_events r (letter_at r.schedule) opening_moment run.0 in
    let seen : end.events ≡ last.events = events_at r last end run.2.at in
    let same = ap (λ (b : BoardView). b.events) lent in
    let all : run.0 ≡ o.events = omega (arith, made, seen, counted, same) in
    subst (λ (n : ℕ). Saw (g.W.Watch.seen c.args.watch.now) (g.W.Watch.seen c.go_until.new.watch)
    (glances_along r.program (moment_after r) n)) all run.2.saw)
    c.outcome.ensures.events

pub returns-clause-err : goal.returns-clause-err
returns-clause-err g c = on_err c.outcome.result (λ r own at.
    let run = went g c r own at in
    (run.0, run.1.first, run.2.saw))

pub returns-in_err-go_until-clause-err : goal.returns-in_err-go_until-clause-err
returns-in_err-go_until-clause-err g c = on_err c.from_residual.result (λ r own at.
    let walked = c.in_err-go_until.ensures.err r opening_moment (own ∙ sym c.new-walk.ensures.schedule)
    (subst (λ (b : BoardView). IsAt r opening_moment b) (sym c.new-walk.ensures.board) at) in
    let broke = run_went (λ over moments. NotBefore over walked.0
    × Saw (g.W.Watch.seen c.args.watch.now) (g.W.Watch.seen c.go_until.new.watch) (glances_along r.program moments walked.0))
    r _ c.new-walk.ensures.taken (walked.1, walked.2.saw) in
    (walked.0, broke.0, broke.1))

pub returns-clause-words : goal.returns-clause-words
returns-clause-words g c = λ p n is. drained_bus p n (transaction_count p n) is refl

pub returns-in_err-go_until-clause-words : goal.returns-in_err-go_until-clause-words
returns-in_err-go_until-clause-words g c = λ p n is. drained_bus p n (transaction_count p n) is refl
