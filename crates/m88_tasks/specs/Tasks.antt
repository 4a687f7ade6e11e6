-- Programs that share a board, as contracts see them: the board, on which one of them runs, and the contexts of the
-- others; and when they stand at a moment of the shared timeline.
use Rattle.std.specs.Prelude.{ℕ, Bool, List, Option, Some, None, ◌≡◌, ◌≢◌, ◌<◌, ◌≤◌, ◌+◌, ◌*◌, length, slice_get, false}
use Rattle.m88_base.specs.Image.{ProgramImage}
use Rattle.m88_base.specs.declared.absent.Absent.{Absent}
use Rattle.m88_board.specs.Board.{BoardView, local_of}
use Rattle.m88_board.specs.Contexts.{StandsFor}
use Rattle.m88_board.specs.Kept.{most_events, most_retired}
use Rattle.m88_board.specs.Moves.{IsAt}
use Rattle.m88_board.specs.declared.context.Context.{Context}
use Rattle.m88_event.specs.Local.{is_over_by}
use Rattle.m88_event.specs.Timeline.{Moment}
use Rattle.m88_isa.specs.ImageProgram.{IsProgramOf}
use Rattle.m88_isa.specs.Machine.{IsProgram}
use Rattle.m88_mem.specs.Marks.{absent_in}
use Rattle.m88_tasks.specs.Past.{HasSharedPast}
use Rattle.m88_tasks.specs.Shared.{AreOwnOutcomes, Group, IsShared, SharedMoment, after_share, opening_shared, own_run, turned_at}
use Rattle.m88_tasks.specs.declared.letter.ShareLetter.{ShareLetter}
use Rattle.m88_tasks.specs.declared.shared.Shared.{Shared}
use Rattle.m88_tasks.specs.declared.shared.Switch.{Switch}
use Rattle.m88_tasks.specs.declared.turned.Turned.{Turned}

-- the most programs that share a board
abbrev pub most_programs : ℕ
most_programs = 8

-- the board, the contexts by the numbers of the programs, none for the one that runs, and the number of that one
pub record ProgramsView : Type 0 where
  pub board : BoardView
  pub contexts : List (Option Context)
  pub current : ℕ

-- these, the events of the whole board, and the switches so far
pub record TasksView : Type 0 where
  pub programs : ProgramsView
  pub events : ℕ
  pub switches : List Switch

-- the program that runs is over, as it is only where every program is
abbrev pub is_over_view : TasksView → Bool
is_over_view t = is_over_by t.programs.board.limit (local_of t.programs.board)

-- some images hold the programs of a group, with MXM clear, and the group has this choice of absent pages and this
-- limit
pub record IsGroupOf (images : List ProgramImage) (absent : Absent) (limit : ℕ) (g : Group)
    : Type 0 where
  pub count : g.count ≡ length images
  pub programs : (q : ℕ) (image : ProgramImage) → slice_get images q ≡ Some image
      → IsProgramOf image (g.programs q)
  pub modes : (q : ℕ) → q < g.count → (g.programs q).mxm ≡ false
  pub absent_is : g.absent ≡ absent_in absent
  pub limited : g.limit ≡ limit

-- the place of a program: where another runs its context is there, which stands for its moment
abbrev pub IsPlaceAt : Group → (ℕ → Moment) → ℕ → ℕ → Option Context → Type 0
IsPlaceAt g moments current q None = q ≡ current
IsPlaceAt g moments current q (Some context) =
    (q ≢ current) × StandsFor (own_run g q) (moments q) context

-- so of all places
abbrev pub ArePlaces : Group → (ℕ → Moment) → ℕ → List (Option Context) → Type 0
ArePlaces g moments current contexts =
    (q : ℕ) (place : Option Context) → slice_get contexts q ≡ Some place
    → IsPlaceAt g moments current q place

-- no place but one has no context
abbrev pub IsOnlyNone : List (Option Context) → ℕ → Type 0
IsOnlyNone contexts current = (q : ℕ) → slice_get contexts q ≡ Some None → q ≡ current

-- the board, which didn't begin from parts, stands at the moment of the program that runs, and each other program's
-- context stands for its moment
pub record ArePrograms (g : Group) (moments : ℕ → Moment) (current : ℕ) (v : ProgramsView)
    : Type 0 where
  pub count : length v.contexts ≡ g.count
  pub few : g.count ≤ most_programs
  pub small : g.limit ≤ most_retired
  pub programs : (q : ℕ) → q < g.count → IsProgram (g.programs q)
  pub number : v.current ≡ current
  pub here : current < g.count
  pub board : IsAt (own_run g current) (moments current) v.board
  pub named : g.absent ≡ absent_in v.board.named
  pub begun : v.board.begun ≡ false
  pub places : ArePlaces g moments current v.contexts

-- they always stand so at some moments of some programs
pub record AreSomePrograms (v : ProgramsView) : Type 0 where
  pub group : Group
  pub moments : ℕ → Moment
  pub current : ℕ
  pub are : ArePrograms group moments current v

-- programs that share a board stand at a moment of the shared timeline
pub record IsTasksAt (g : Group) (s : SharedMoment) (t : TasksView) : Type 0 where
  pub programs : ArePrograms g s.moments s.current t.programs
  pub events : t.events ≡ s.events
  pub switches : t.switches ≡ s.switches
  pub past : HasSharedPast g s

-- they always stand at one, with no more events than are counted
pub record AreTasks (t : TasksView) : Type 0 where
  pub group : Group
  pub moment : SharedMoment
  pub at : IsTasksAt group moment t
  pub counted : t.events ≤ most_events

-- the program that runs took a letter, or the letter `t` came: what was said, where the programs stand then, and the
-- switches so far
pub record IsTaken (g : Group) (letter : ShareLetter) (s : SharedMoment) (turned : Turned)
    (v : ProgramsView) (switches : List Switch) : Type 0 where
  pub says : turned ≡ turned_at g letter s
  pub programs : ArePrograms g (after_share g letter s).moments (after_share g letter s).current v
  pub joined : switches ≡ (after_share g letter s).switches

-- the most events of a shared run
abbrev pub most_shared_events : ℕ → ℕ → ℕ → ℕ
most_shared_events letters programs limit = letters + programs * (8 * limit + 8)

-- the programs of some images stand before the first event of a shared run, and no event is counted
pub record BeginsTasks (images : List ProgramImage) (absent : Absent) (limit : ℕ) (t : TasksView) : Type 0 where
  pub at : (g : Group) → IsGroupOf images absent limit g → IsTasksAt g (opening_shared g) t
  pub events : t.events ≡ 0
  pub group : (g : Group) × IsGroupOf images absent limit g

-- the event of a letter is made, told, and counted
pub record MadeEvent (letter : ShareLetter) (old : TasksView) (turned : Turned) (new : TasksView) : Type 0 where
  pub timeline : (g : Group) (s : SharedMoment) → IsTasksAt g s old → IsTasksAt g (after_share g letter s) new
  pub said : (g : Group) (s : SharedMoment) → IsTasksAt g s old → turned ≡ turned_at g letter s
  pub counted : new.events ≡ old.events + 1

-- a run from the first event on, under the letters of a schedule and then `r` and `i` in turn, came to this: what the
-- shared timeline comes to, of each program what its own run comes to under its own letters, and no more events than
-- that
pub record RanShared (schedule : List ShareLetter) (t : TasksView) (o : Shared) : Type 0 where
  pub shared : (g : Group) → IsTasksAt g (opening_shared g) t → IsShared g schedule o
  pub own : (g : Group) → IsTasksAt g (opening_shared g) t → AreOwnOutcomes g schedule o
  pub within : o.events
      ≤ most_shared_events (length schedule) (length t.programs.contexts) t.programs.board.limit
