-- What those above may use of paged runs without a call: how many instructions a run retires depends on the program and
-- the limit alone, whatever pages are absent and whatever the schedule.
use Rattle.std.specs.Prelude.{ℕ, Bool, true, false, List, ◌≡◌, ◌<◌, ◌≤◌, ◌==◌, ◌||◌, nat_lt}
use Rattle.std.proofs.Common.{arith, refl, sym, ap, ◌∙◌}
use Rattle.std.proofs.lemmas.Bool.{eqb-true, ltb-false, ltb-true}
use Rattle.m88_event.proofs.Laws.{past_after}
use Rattle.m88_event.specs.Past.{HasInstructions, HasPast}
use Rattle.m88_event.specs.Run.{IsOutcome, moment_after, outcome_at}
use Rattle.m88_event.specs.Timeline.{Moment, Run, is_drained, is_idle, is_over}
use Rattle.m88_event.specs.declared.letter.Letter.{Letter}
use Rattle.m88_event.specs.declared.outcome.Outcome.{Outcome}
use Rattle.m88_isa.proofs.Laws.{by_test, second_of}
use Rattle.m88_isa.specs.Held.{is_stop}
use Rattle.m88_isa.specs.Machine.{Program, state, turn_at}

-- a history stops behind so many instructions, by the program's end or by the limit, and not before
record StopsBehind (p : Program) (limit count : ℕ) : Type 0 where
  pub within : count ≤ limit
  pub before : HasInstructions p count
  pub here : count < limit → is_stop (turn_at p (state p count)) ≡ true

-- there is one such count
module _ (p : Program) (limit : ℕ) where
  none_below : (a b : ℕ) → StopsBehind p limit a → StopsBehind p limit b → a < b → ⊥
  none_below a b x y less =
      let most = y.within in
      let here = x.here (omega (arith, less, most)) in
      let goes = y.before a less in
      cc

  one_stop : (a b : ℕ) → StopsBehind p limit a → StopsBehind p limit b → a ≡ b
  one_stop a b x y = by_test (nat_lt a b)
      (λ less. absurd (none_below a b x y (ltb-true a b less)))
      (λ more. by_test (nat_lt b a)
      (λ less. absurd (none_below b a y x (ltb-true b a less)))
      (λ most. omega (arith, ltb-false a b more, ltb-false b a most)))

-- the history stops where a run is over
module _ (r : Run) (m : Moment) (past : HasPast r m) where
  stop_by : (ended : Bool) → m.ended ≡ ended → (ended || m.retired == r.limit) ≡ true → m.retired < r.limit →
      is_stop (turn_at r.program (state r.program m.retired)) ≡ true
  stop_by true is idle less = (past.ended is).next
  stop_by false is idle less = let same = eqb-true m.retired r.limit idle in absurd (omega (arith, same, less))

  stops_there : is_over r m ≡ true → StopsBehind r.program r.limit m.retired
  stops_there over = record {
    within = past.within;
    before = past.retired;
    here = stop_by m.ended refl (second_of (is_drained r.program m) (is_idle r m) over);
  }

retired_at : (p : Program) (m : Moment) (o : Outcome) → o ≡ outcome_at p m → o.retired ≡ m.retired
unfolding outcome_at
retired_at p m o is = ap (λ (x : Outcome). x.retired) is

-- so runs with one limit retire as many
pub one_retired : (r : Run) (others : ℕ → Bool) (letters : List Letter) (a b : Outcome) →
    IsOutcome (record r { absent = others; schedule = letters }) a → IsOutcome r b → a.retired ≡ b.retired
one_retired r others letters a b x y =
    let s : Run = record r { absent = others; schedule = letters } in
    let m : Moment = moment_after s x.events in
    let n : Moment = moment_after r y.events in
    retired_at r.program m a x.value
    ∙ one_stop r.program r.limit m.retired n.retired
    (stops_there s m (past_after s x.events) x.run.here) (stops_there r n (past_after r y.events) y.run.here)
    ∙ sym (retired_at r.program n b y.value)
