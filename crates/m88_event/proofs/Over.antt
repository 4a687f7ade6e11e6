-- The moment at which a run is over: what is seen of it, that there is no other, and what its memory is.
use Rattle.std.specs.Prelude.{ℕ, zero, suc, Bool, true, false, not, List, [], ◌∷◌, None, ◌≡◌, ◌≢◌, ◌<◌, ◌≤◌, ◌⊎◌, ◌+◌, ◌*◌, ◌==◌, nat_lt}
use Rattle.std.proofs.Common.{arith, add-one, refl, sym, ap, ap₂, ◌∙◌, subst, inl, inr}
use Rattle.std.proofs.lemmas.Bool.{eqb-false, eqb-true, ltb-false, ltb-true}
use Rattle.std.proofs.lemmas.List.{take_all}
use Rattle.m88_isa.proofs.Laws.{by_test, none_from, state_bus}
use Rattle.m88_base.specs.Pages.{page_number}
use Rattle.m88_isa.specs.Bus.{bus_after_all, in_words}
use Rattle.m88_isa.specs.Held.{first_from, is_pending}
use Rattle.m88_isa.specs.History.{bus_at, pending_at, transaction_count, transactions}
use Rattle.m88_isa.specs.Machine.{IsProgram, Program, opening, state}
use Rattle.m88_isa.specs.declared.planned.Access.{Access}
use Rattle.m88_event.proofs.Histories.{none_left, outcome_is_seen, over_seen}
use Rattle.m88_event.specs.Choice.{answer_choice}
use Rattle.m88_event.specs.Local.{is_over_by, local_at}
use Rattle.m88_event.specs.Run.{IsFirst, IsOutcome, answered_after, moment_after, moment_along, outcome_at, outcome_by}
use Rattle.m88_event.specs.Timeline.{DoneWereMade, Moment, Run, absent_at, after_choice, after_letter, history, is_drained, is_over, situation_at}
use Rattle.m88_event.specs.Situation.{record_of}
use Rattle.m88_event.specs.declared.outcome.Outcome.{Outcome}
use Rattle.m88_event.specs.declared.record.Record.{Record}

pub drained_seen : (r : Run) (m : Moment) → DoneWereMade r.program m → not (is_pending (local_at r m).pending) ≡ is_drained r.program m
unfolding local_at
drained_seen r m within = none_left m.done (transactions r.program m.retired) within

pub same_over : (r : Run) (m : Moment) → DoneWereMade r.program m → is_over_by r.limit (local_at r m) ≡ is_over r m
unfolding local_at
same_over r = over_seen (history r.program) (bus_at r.program) r

-- where all transactions are done, memory is that of the history
pub drained_bus : (p : Program) (n done : ℕ) → IsProgram p → done ≡ transaction_count p n →
    bus_at p n done ≡ in_words (state p n).memory
drained_bus p n done bytes e =
    ap (λ xs. bus_after_all xs (in_words (opening p).memory)) (take_all done (transactions p n) (omega (arith, e)))
    ∙ sym (state_bus p n bytes)

-- what is seen of a moment comes to what the moment does
pub outcome_seen : (r : Run) (m : Moment) →
    outcome_by (in_words (opening r.program).memory) (local_at r m) ≡ outcome_at r.program m
unfolding outcome_at local_at
outcome_seen r = outcome_is_seen (history r.program) (bus_at r.program) r

-- letters `r` retire no instruction, and leave the marks of a bubble and of the end
abbrev pub issued_of : Moment → ℕ × Bool × Bool
issued_of m = (m.retired, m.bubble, m.ended)

answer_issues_none : (fault : Record) (m : Moment) (pending : List Access) (absent : ℕ → Bool) →
    issued_of (after_choice pending (answer_choice pending absent) fault m) ≡ issued_of m
answer_issues_none fault m [] absent = refl
answer_issues_none fault m (x ∷ xs) absent =
    by_test (absent (page_number x.addr)) (λ gone. rw gone refl) (λ there. rw there refl)

pub answered_issues_none : (r : Run) (m : Moment) (events : ℕ) →
    issued_of (answered_after r m events) ≡ issued_of m
unfolding moment_along after_letter situation_at
answered_issues_none r m zero = refl
answered_issues_none r m (suc k) =
    let before = answered_after r m k in
    answer_issues_none (record_of r.program (situation_at r before)) before
    (pending_at r.program before.retired before.done) (absent_at r before)
    ∙ answered_issues_none r m k

-- there is one first time
pub one_first : (holds : ℕ → Bool) (a b : ℕ) → IsFirst holds a → IsFirst holds b → a ≡ b
one_first holds a b x y = by_test (nat_lt a b)
    (λ less. absurd (let here = x.here in let no = y.first a (ltb-true a b less) in cc))
    (λ more. by_test (nat_lt b a)
    (λ less. absurd (let here = y.here in let no = x.first b (ltb-true b a less) in cc))
    (λ most. omega (arith, ltb-false a b more, ltb-false b a most)))

-- so many events are the first at which a condition holds
pub first_after : (holds : ℕ → Bool) (events : ℕ) → first_from 0 events holds ≡ None → holds events ≡ true → IsFirst holds events
first_after holds events none here = record {
  here = here;
  first = λ k less. none_from 0 events holds k none (omega arith) (omega (arith, less));
}

-- a run comes to one outcome
pub one_outcome : (r : Run) (a b : Outcome) → IsOutcome r a → IsOutcome r b → a ≡ b
one_outcome r a b x y =
    let same = one_first (λ k. is_over r (moment_after r k)) x.events y.events x.run y.run in
    x.value ∙ ap (λ k. outcome_at r.program (moment_after r k)) same ∙ sym y.value
