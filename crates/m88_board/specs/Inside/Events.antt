-- What the event of a letter brings, and what it tells of its instruction.
use Rattle.std.specs.Prelude.{List, Option, true, Result, Ok, Err, IfOk, ◌≡◌}
use Rattle.m88_base.specs.Image.{byte_at}
use Rattle.m88_base.specs.declared.failing.NoMemory.{NoMemory}
use Rattle.m88_event.specs.Choice.{Choice, issues, said}
use Rattle.m88_event.specs.Local.{choice_by, move_by, record_by}
use Rattle.m88_event.specs.Timeline.{Moment, Run}
use Rattle.m88_event.specs.declared.happened.Happened.{Happened}
use Rattle.m88_event.specs.declared.letter.Letter.{Letter}
use Rattle.m88_event.specs.declared.letter.Letter.TheVariants.{Issue}
use Rattle.m88_event.specs.declared.record.Record.{Record}
use Rattle.m88_isa.specs.Effect.{Change, recorded_change}
use Rattle.m88_isa.specs.ImageProgram.{IsProgramOf}
use Rattle.m88_isa.specs.Machine.{Program, four_bytes}
use Rattle.m88_isa.specs.declared.planned.Plan.TheVariants.{Go}
use Rattle.m88_board.specs.Board.{BoardView, local_of, pc_of}
use Rattle.m88_board.specs.Moves.{Happens, IsAt, IsEvicted, IsSameRun, IsStep, IsStill}
use Rattle.m88_board.specs.Shown.{Leaves}
use Rattle.m88_board.specs.Told.{IsTold, IsWordOf, MakesWordAccesses, WentOn}
use Rattle.m88_board.specs.Inside.Briefly.{happened_of}
use Rattle.m88_board.specs.declared.glance.Glance.{Glance}
use Rattle.m88_board.specs.declared.brief.Brief.{Brief}
use Rattle.m88_board.specs.declared.brief.Brief.TheVariants.{Evicted}
use Rattle.m88_board.specs.declared.told.Told.{Told}

-- a board did what a choice makes of it, but for the count of events
pub record Does (choice : Choice) (fault : Record) (old new : BoardView) : Type 0 where
  pub moved : local_of new ≡ move_by choice fault (local_of old)
  pub same : IsSameRun old new

-- and says so
pub record Did (choice : Choice) (fault : Record) (old : BoardView) (happened : Happened)
    (new : BoardView) : Type 0 where
  pub says : happened ≡ said choice fault
  pub does : Does choice fault old new

-- what the event of a letter brings, but for the count of events: by each program of its image the board did what the
-- letter chooses, and says so; it is the same run, and no event is counted yet; where nothing is to be done the board
-- stays; and the control registers are what the event leaves
pub record Brings (letter : Letter) (old : BoardView) (brief : Brief) (new : BoardView) : Type 0 where
  pub did : (p : Program) → IsProgramOf old.memory.image p
      → Did (choice_by p old.limit letter (local_of old)) (record_by p old.limit (local_of old)) old
      (happened_of brief new) new
  pub same : IsSameRun old new
  pub events : new.events ≡ old.events
  pub still : IsStill (happened_of brief new) → new ≡ old
  pub leaves : Leaves (happened_of brief new) old new

-- the event is made, or memory ran out and all is as before
abbrev pub BringsOrStays : Letter → BoardView → Result Brief NoMemory → BoardView → Type 0
BringsOrStays letter old (Ok brief) new = Brings letter old brief new
BringsOrStays letter old (Err e) new = new ≡ old

-- the letter `e` takes no memory, says so, and makes every page absent
pub record EvictsAll (old : BoardView) (result : Result Brief NoMemory) (new : BoardView) : Type 0 where
  pub says : result ≡ Ok Evicted
  pub evicted : IsEvicted old new

-- what the letter `i` tells of changes: where somebody asks those of the instruction that is issued, and none but
-- accesses of words if it told none before
pub record TellsPlan (b : BoardView) (before told : Told) : Type 0 where
  pub plan : before.asked ≡ true → (p : Program) (change : Change) → IsProgramOf b.memory.image p
      → choice_by p b.limit Issue (local_of b) ≡ issues change → told.plan ≡ Go (recorded_change change)
  pub made : MakesWordAccesses before.plan → MakesWordAccesses told.plan

-- and the word of the instruction that goes on
pub record TellsInstruction (old : BoardView) (before : Told) (result : Result Brief NoMemory) (new : BoardView)
    (told : Told) : Type 0 where
  pub word : (p : Program) → IsProgramOf old.memory.image p → IfOk result (λ brief. WentOn (happened_of brief new)
      → IsWordOf (four_bytes (byte_at old.memory.image) (pc_of old.slots)) told.word)
  pub changes : TellsPlan old before told

-- an event of a board that is watched, which is shown behind it
pub record HappensShown (letter : Letter) (old : BoardView) (before after : Option (List Glance)) (brief : Brief)
    (new : BoardView) : Type 0 where
  pub happens : Happens letter old (happened_of brief new) new
  pub ok : (r : Run) (m : Moment) → IsAt r m old → IsStep r letter m before after new

-- the event is made, counted and shown, or memory ran out and all is as before
abbrev pub ShownOrStays : Letter → BoardView → Option (List Glance) → Option (List Glance) → Result Brief NoMemory →
    BoardView → Type 0
ShownOrStays letter old before after (Ok brief) new = HappensShown letter old before after brief new
ShownOrStays letter old before after (Err e) new = new ≡ old

-- what an event tells of its instruction at a moment, where somebody asks, and that it tells of no accesses but those
-- of words if none were told before
pub record TellsEvent (letter : Letter) (old : BoardView) (before : Told) (result : Result Brief NoMemory)
    (new : BoardView) (told : Told) : Type 0 where
  pub told_at : letter ≡ Issue → before.asked ≡ true → IfOk result (λ brief. (r : Run) (m : Moment)
      → IsAt r m old → IsTold r m (happened_of brief new) told)
  pub made : MakesWordAccesses before.plan → MakesWordAccesses told.plan
