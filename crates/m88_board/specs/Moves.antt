-- What an event makes of a board.
use Rattle.std.specs.Prelude.{ℕ, List, [], ◌∷◌, Option, Some, Result, Ok, IfOk, OnErr, ◌≡◌, ◌≤◌, ◌+◌, ◌-◌, length}
use Rattle.m88_base.specs.Pages.{every_page}
use Rattle.m88_base.specs.declared.failing.NoMemory.{NoMemory}
use Rattle.m88_ctrl.specs.ControlRegisters.{mxm_of}
use Rattle.m88_event.specs.Choice.{ServesOrEnds}
use Rattle.m88_event.specs.Local.{local_at, move, said_by}
use Rattle.m88_event.specs.Past.{HasPast}
use Rattle.m88_event.specs.Timeline.{DoneWereMade, Moment, Run, after_letter, said_at}
use Rattle.m88_event.specs.declared.happened.End.{End}
use Rattle.m88_event.specs.declared.happened.Happened.{Happened}
use Rattle.m88_event.specs.declared.happened.Happened.TheVariants as happened
use Rattle.m88_event.specs.declared.letter.Letter.{Letter}
use Rattle.m88_event.specs.declared.letter.Letter.TheVariants.{Answer, Evict}
use Rattle.m88_mem.specs.DataBus.{absent_of, bus_of, ready_of}
use Rattle.m88_isa.specs.Machine.{Program}
use Rattle.m88_board.specs.Board.{BoardView, event_counted, local_of}
use Rattle.m88_board.specs.Kept.{IsKept}
use Rattle.m88_board.specs.Shown.{Leaves}
use Rattle.m88_board.specs.Glances.{Saw, glance_at, glances_along}
use Rattle.m88_board.specs.declared.glance.Glance.{Glance}
use Rattle.m88_isa.specs.ImageProgram.{IsProgramOf}

-- the same limit, MXM, choice of absent pages, image and beginning
pub record IsSameRun (old new : BoardView) : Type 0 where
  pub limit : new.limit ≡ old.limit
  pub mxm : mxm_of new.control ≡ mxm_of old.control
  pub named : new.named ≡ old.named
  pub image : new.memory.image ≡ old.memory.image
  pub begun : new.begun ≡ old.begun

-- an event of a letter: the move of what is seen, and what it says
pub record IsMove (p : Program) (letter : Letter) (old : BoardView) (happened : Happened)
    (new : BoardView) : Type 0 where
  pub says : happened ≡ said_by p old.limit letter (local_of old)
  pub moved : local_of new ≡ move p old.limit letter (local_of old)
  pub same : IsSameRun old new

-- a board stands at a moment of a run, of a program that its image holds and with its limit, and with what lies behind
-- each moment of a run
pub record IsAt (r : Run) (m : Moment) (b : BoardView) : Type 0 where
  pub image : IsProgramOf b.memory.image r.program
  pub limit : b.limit ≡ r.limit
  pub within : DoneWereMade r.program m
  pub past : HasPast r m
  pub seen : local_of b ≡ local_at r m

-- a board made the event of a letter at a moment, and was shown
pub record IsStep (r : Run) (letter : Letter) (m : Moment) (before after : Option (List Glance)) (new : BoardView)
    : Type 0 where
  pub at : IsAt r (after_letter r letter m) new
  pub saw : Saw before after (glance_at r.program (after_letter r letter m) ∷ [])

-- a board went along moments, from the first to the last of so many more, and was shown at each of these
pub record IsAlong (r : Run) (moments : ℕ → Moment) (events : ℕ) (before after : Option (List Glance)) (b : BoardView)
    : Type 0 where
  pub at : IsAt r (moments events) b
  pub saw : Saw before after (glances_along r.program moments events)

-- every page is absent, and nothing else changed but the count of events: the words and the pages that are ready stay
pub record IsEvicted (old new : BoardView) : Type 0 where
  pub rest : new ≡ record old { memory = new.memory; book = record old.book { events = new.events } }
  pub image : new.memory.image ≡ old.memory.image
  pub bus : bus_of new.memory ≡ bus_of old.memory
  pub ready : ready_of new.memory ≡ ready_of old.memory
  pub absent : absent_of new.memory ≡ every_page

-- what an event says that changes nothing but the count of events: there was nothing to do, or the next instruction is
-- held
abbrev pub IsStill : Happened → Type 0
IsStill happened.Idle = Unit {0}
IsStill (happened.Stalled why) = Unit {0}
IsStill _ = ⊥

-- how the program ended, after an event, by what that says: by its end, or as before, if it had
abbrev pub end_after : Happened → Option End → Option End
end_after (happened.Ended end) before = Some end
end_after _ before = before

-- an event of a letter: the move of what is seen; at a moment of a history the next one of the timeline, and what that
-- says; a trap is served and the program ends only with nothing pending; how the program ended then; one event more;
-- the same run; nothing else changed where there was nothing to do or the next instruction is held; an answer leaves
-- fewer transactions pending; the control registers are those that it leaves; and what always holds of a board goes on
-- to hold
pub record Happens (letter : Letter) (old : BoardView) (happened : Happened) (new : BoardView) : Type 0 where
  pub moved : (p : Program) → IsProgramOf old.memory.image p → IsMove p letter old happened new
  pub timeline : (r : Run) (m : Moment) → IsAt r m old → IsAt r (after_letter r letter m) new
  pub said : (r : Run) (m : Moment) → IsAt r m old → happened ≡ said_at r letter m
  pub precise : ServesOrEnds happened → old.pending ≡ []
  pub ended : new.ended ≡ end_after happened old.ended
  pub counted : new.events ≡ old.events + 1
  pub same : IsSameRun old new
  pub still : IsStill happened → new ≡ event_counted old
  pub shorter : letter ≡ Answer → length new.pending ≤ length old.pending - 1
  pub leaves : Leaves happened old new
  pub kept : IsKept new

-- the event of a letter by its answer: it was made, or memory ran out and the board is as before; and `e` takes no
-- memory, says so, and makes every page absent
pub record MakesEvent (letter : Letter) (old : BoardView) (result : Result Happened NoMemory) (new : BoardView) : Type 0
  where
    pub happens : IfOk result (λ happened. Happens letter old happened new)
    pub evicts : letter ≡ Evict → result ≡ Ok happened.Evicted
    pub evicted : letter ≡ Evict → IsEvicted old new
    pub err : OnErr result (new ≡ old)
