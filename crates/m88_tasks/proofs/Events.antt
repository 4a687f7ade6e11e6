-- The event of a letter, and want of memory, by what the programs come to.
use Rattle.std.specs.Prelude.{ℕ, true, false, List, ◌≡◌, ◌<◌, ◌+◌, length, Result, Ok, Err, IfOk}
use Rattle.std.proofs.Common.{arith, sym, ap, subst, ◌∙◌}
use Rattle.m88_base.specs.declared.failing.NoMemory.{NoMemory}
use Rattle.m88_event.specs.Run.{outcome_at}
use Rattle.m88_event.specs.Timeline.{Moment, Run, is_over}
use Rattle.m88_event.specs.declared.outcome.Outcome.{Outcome}
use Rattle.m88_board.specs.Kept.{most_events}
use Rattle.m88_board.specs.Moves.{IsAt}
use Rattle.m88_tasks.proofs.Choosing.{each_over}
use Rattle.m88_tasks.proofs.Running.{alive_view, taken_at}
use Rattle.m88_tasks.specs.Shared.{Group, SharedMoment, after_share, all_over, outcomes_of, over_at, own_run}
use Rattle.m88_tasks.specs.Tasks.{ArePlaces, ArePrograms, AreTasks, IsTaken, IsTasksAt, ProgramsView, TasksView, is_over_view}
use Rattle.m88_tasks.specs.declared.letter.ShareLetter.{ShareLetter}
use Rattle.m88_tasks.specs.declared.shared.Switch.{Switch}
use Rattle.m88_tasks.specs.declared.turned.Turned.{Turned}

-- what a letter comes to wherever the programs stand
abbrev pub Takes : TasksView → ShareLetter → Turned → ProgramsView → List Switch → Type 0
Takes t letter turned v switches =
    (g : Group) (s : SharedMoment) → ArePrograms g s.moments s.current t.programs → over_at g s.moments s.current ≡ false
    → t.events + 1 ≡ s.events + 1 → t.switches ≡ s.switches → IsTaken g letter s turned v switches

pub takes_at : (g : Group) (s : SharedMoment) (t : TasksView) (letter : ShareLetter) (turned : Turned) (v : ProgramsView) (switches : List Switch) →
    Takes t letter turned v switches → IsTasksAt g s t → is_over_view t ≡ false → IsTaken g letter s turned v switches
takes_at g s t letter turned v switches takes at going =
    takes g s at.programs (alive_view g s t at going) (ap (λ (n : ℕ). n + 1) at.events) at.switches

pub event_at : (g : Group) (s : SharedMoment) (t : TasksView) (letter : ShareLetter) (turned : Turned) (v : ProgramsView) (switches : List Switch) →
    Takes t letter turned v switches → IsTasksAt g s t → is_over_view t ≡ false →
    IsTasksAt g (after_share g letter s) (record { programs = v; events = t.events + 1; switches = switches })
event_at g s t letter turned v switches takes at going =
    taken_at g s letter turned t v switches at (takes_at g s t letter turned v switches takes at going)

pub event_tasks : (t : TasksView) (letter : ShareLetter) (turned : Turned) (v : ProgramsView) (switches : List Switch) →
    Takes t letter turned v switches → AreTasks t → is_over_view t ≡ false → t.events < most_events →
    AreTasks (record { programs = v; events = t.events + 1; switches = switches })
event_tasks t letter turned v switches takes are going room = record {
  group = are.group;
  moment = after_share are.group letter are.moment;
  at = event_at are.group are.moment t letter turned v switches takes are.at going;
  counted = omega (arith, room);
}

-- memory ran out, and the programs and the switches are as before
pub refused_tasks : (t : TasksView) (v : ProgramsView) (switches : List Switch) → v ≡ t.programs → switches ≡ t.switches →
    record { programs = v; events = t.events; switches = switches } ≡ t
refused_tasks t v switches still same = λ i. record { programs = still i; events = t.events; switches = same i }

-- all outcomes, where all are over
pub all_outcomes : {X : Type 0} (items : X → List Outcome) (r : Result X NoMemory) (v : ProgramsView) (own : Outcome) →
    ((r : Run) (m : Moment) → IsAt r m v.board → is_over r m ≡ true → own ≡ outcome_at r.program m) →
    IfOk r (λ outcomes. (g : Group) (moments : ℕ → Moment) (current : ℕ) → ArePlaces g moments current v.contexts
    → ((q : ℕ) → q < length v.contexts → over_at g moments q ≡ true) → own ≡ outcome_at (g.programs current) (moments current)
    → items outcomes ≡ outcomes_of g moments (length v.contexts)) →
    IfOk r (λ outcomes. (g : Group) (moments : ℕ → Moment) (current : ℕ) → ArePrograms g moments current v → all_over g moments ≡ true
    → items outcomes ≡ outcomes_of g moments g.count)
all_outcomes items (Ok x) v own mine h = λ g moments current are over.
    let count = are.count in
    h g moments current are.places (λ q inside. each_over g moments q over (omega (arith, inside, count)))
    (mine (own_run g current) (moments current) are.board (each_over g moments current over are.here))
    ∙ ap (outcomes_of g moments) are.count
all_outcomes items (Err e) v own mine h = tt
