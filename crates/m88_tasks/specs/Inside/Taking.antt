-- What the calls of a shared run make of its programs.
use Rattle.std.specs.Prelude.{ℕ, List, [], Option, Some, None, ◌≡◌, ◌≢◌, ◌≤◌, ◌<◌, length, true}
use Rattle.m88_board.specs.Contexts.{StandsFor}
use Rattle.m88_board.specs.declared.context.Context.{Context}
use Rattle.m88_event.specs.Run.{outcome_at}
use Rattle.m88_event.specs.Timeline.{Moment, Run, is_over, said_at}
use Rattle.m88_event.specs.declared.happened.Happened.{Happened}
use Rattle.m88_event.specs.declared.letter.Letter.{Letter}
use Rattle.m88_event.specs.declared.outcome.Outcome.{Outcome}
use Rattle.m88_tasks.specs.Shared.{Group, SharedMoment, all_over, moments_then, own_run, shared_at}
use Rattle.m88_tasks.specs.Tasks.{ArePrograms, IsTasksAt, ProgramsView, TasksView, most_programs}
use Rattle.m88_tasks.specs.declared.shared.Shared.{Shared}
use Rattle.m88_tasks.specs.declared.shared.Switch.{Switch}

-- two programs have numbers
pub record AreNumbers (from to : ℕ) : Type 0 where
  pub from_few : from ≤ most_programs
  pub to_few : to ≤ most_programs

-- another program than the one that runs can run from now on, since nothing is pending
pub record MayExchange (to : ℕ) (v : ProgramsView) : Type 0 where
  pub inside : to < length v.contexts
  pub other : to ≢ v.current
  pub empty : v.board.pending ≡ []

-- the program that runs took a letter, and one runs from now on that is chosen by the moments that this leads to
pub record TookLetter (chosen : Group → (ℕ → Moment) → ℕ → ℕ) (letter : Letter) (old : ProgramsView)
    (happened : Happened) (new : ProgramsView) : Type 0 where
  pub timeline : (g : Group) (moments : ℕ → Moment) (current : ℕ) → ArePrograms g moments current old
      → ArePrograms g (moments_then g letter moments current)
      (chosen g (moments_then g letter moments current) current) new
  pub said : (g : Group) (moments : ℕ → Moment) (current : ℕ) → ArePrograms g moments current old
      → happened ≡ said_at (own_run g current) letter (moments current)

-- the one that runs goes on
abbrev pub stays : Group → (ℕ → Moment) → ℕ → ℕ
stays g moments current = current

-- memory ran out: the programs are as before, and so are the switches
pub record AreLeft (old new : ProgramsView) (before after : List Switch) : Type 0 where
  pub programs : new ≡ old
  pub switches : after ≡ before

-- it is what the program of a place came to: that of a context, or of the one that runs, which is there already
pub record IsOutcomeOf (context : Option Context) (own : Option Outcome) (o : Outcome) : Type 0 where
  pub saved : (r : Run) (m : Moment) (c : Context) → context ≡ Some c → StandsFor r m c → is_over r m ≡ true
      → o ≡ outcome_at r.program m
  pub own_is : context ≡ None → own ≡ Some o

-- it is what a shared run came to that is over
pub record IsSharedOf (t : TasksView) (o : Shared) : Type 0 where
  pub value : (g : Group) (s : SharedMoment) → IsTasksAt g s t → all_over g s.moments ≡ true → o ≡ shared_at g s
  pub events : o.events ≡ t.events
