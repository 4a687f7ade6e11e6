-- What a shared run comes to, by what memory leaves of it.
use Rattle.std.specs.Prelude.{ℕ, Bool, true, List, ◌≡◌, ◌≤◌, length, nat_lt, Result, Ok, Err, IfOk}
use Rattle.std.proofs.Common.{arith, sym, ap, ◌∙◌}
use Rattle.std.proofs.lemmas.Bool.{ltb-false, ltb-true}
use Rattle.m88_base.specs.declared.failing.NoMemory.{NoMemory}
use Rattle.m88_isa.proofs.Laws.{by_test}
use Rattle.m88_tasks.proofs.Choosing.{no_true}
use Rattle.m88_tasks.proofs.Running.{Went, over_view, went_own, went_shared}
use Rattle.m88_tasks.specs.Inside.Taking.{IsSharedOf}
use Rattle.m88_tasks.specs.Shared.{Group, IsShared, all_over, opening_shared, shared_after, shared_at}
use Rattle.m88_tasks.specs.Tasks.{IsTasksAt, RanShared, TasksView, is_over_view, most_shared_events}
use Rattle.m88_tasks.specs.declared.letter.ShareLetter.{ShareLetter}
use Rattle.m88_tasks.specs.declared.shared.Shared.{Shared}

-- a shared run comes to one value
pub shared_only : (g : Group) (schedule : List ShareLetter) (o other : Shared) → IsShared g schedule o → IsShared g schedule other → o ≡ other
shared_only g schedule o other a b =
    a.value ∙ ap (λ (n : ℕ). shared_at g (shared_after g schedule n)) same ∙ sym b.value
  where
    over : ℕ → Bool
    over n = all_over g (shared_after g schedule n).moments

    same : a.events ≡ b.events
    same = by_test (nat_lt a.events b.events)
        (λ t. absurd (no_true _ a.run.here (b.run.first a.events (ltb-true a.events b.events t))))
        (λ f. by_test (nat_lt b.events a.events)
        (λ t. absurd (no_true _ b.run.here (a.run.first b.events (ltb-true b.events a.events t))))
        (λ e. let low = ltb-false a.events b.events f in let high = ltb-false b.events a.events e in omega (arith, low, high)))

value_at : (g : Group) (schedule : List ShareLetter) (k : ℕ) (t : TasksView) (o : Shared) → Went g schedule k t → is_over_view t ≡ true →
    IsSharedOf t o → o ≡ shared_at g (shared_after g schedule k)
value_at g schedule k t o went over h =
    h.value g (shared_after g schedule k) went.at (sym (over_view g (shared_after g schedule k) t went.at) ∙ over)

pub ran_shared : (r : Result Shared NoMemory) (schedule : List ShareLetter) (k : ℕ) (first t : TasksView) →
    ((g : Group) → IsTasksAt g (opening_shared g) first → Went g schedule k t) → is_over_view t ≡ true → t.events ≡ k →
    k ≤ most_shared_events (length schedule) (length first.programs.contexts) first.programs.board.limit → IfOk r (IsSharedOf t) →
    IfOk r (RanShared schedule first)
ran_shared (Ok o) schedule k first t went over same few h =
    let events = h.events in
    record {
      shared = λ g at. went_shared g schedule k t o (went g at) over (value_at g schedule k t o (went g at) over h);
      own = λ g at. went_own g schedule k t o (went g at) over (value_at g schedule k t o (went g at) over h);
      within = omega (arith, same, few, events);
    }
ran_shared (Err e) schedule k first t went over same few h = tt
