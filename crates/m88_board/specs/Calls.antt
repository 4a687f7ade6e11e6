-- What the calls of a walk come to.
use Rattle.std.specs.Prelude.{List, Option, Result, OnErr, OnOk, ◌≡◌, ◌<◌, ◌+◌}
use Rattle.m88_base.specs.declared.failing.NoMemory.{NoMemory}
use Rattle.m88_board.specs.Board.{local_of}
use Rattle.m88_board.specs.Moves.{IsAt, IsSameRun, IsStep, MakesEvent}
use Rattle.m88_board.specs.declared.glance.Glance.{Glance}
use Rattle.m88_board.specs.declared.walk.Walk.{Walk}
use Rattle.m88_event.specs.Bound.{weight}
use Rattle.m88_event.specs.Letters.{letter_at}
use Rattle.m88_event.specs.Timeline.{Moment, Run}
use Rattle.m88_event.specs.declared.happened.Happened.{Happened}

-- every call of a walk leaves it on its run: that of its board is the same, and so are the letters and whose board is
-- lent
pub record StaysOnRun (old new : Walk) : Type 0 where
  pub same : IsSameRun old.board.now new.board.now
  pub schedule : new.schedule ≡ old.schedule
  pub lender : new.board.ghost_name ≡ old.board.ghost_name

-- a call takes the letter of an event, and less of the run is left; it takes none where memory ran out; and it stays on
-- its run
pub record TakesLetter {T : Type 0} (old new : Walk) (result : Result T NoMemory) : Type 0 where
  pub taken : OnOk result (new.taken ≡ old.taken + 1)
  pub lighter : OnOk result (weight new.schedule.now new.board.now.limit new.taken (local_of new.board.now)
      < weight old.schedule.now old.board.now.limit old.taken (local_of old.board.now))
  pub untaken : OnErr result (new.taken ≡ old.taken)
  pub stays : StaysOnRun old new

-- the board makes the event of the next letter, and is shown as it stands at the moment behind it; or memory ran out
pub record MakesNext (old new : Walk) (before after : Option (List Glance)) (result : Result Happened NoMemory) :
    Type 0 where
  pub event : MakesEvent (letter_at old.schedule.now old.taken) old.board.now result new.board.now
  pub ok : OnOk result ((r : Run) (m : Moment) → IsAt r m old.board.now
      → IsStep r (letter_at old.schedule.now old.taken) m before after new.board.now)
  pub takes : TakesLetter old new result
