-- A trace that is being written of a run on a board.
use Rattle.std.specs.Prelude.{false, ◌≡◌, ◌<◌, ◌+◌}
use Rattle.m88_board.specs.Board.{local_of}
use Rattle.m88_board.specs.Calls.{StaysOnRun}
use Rattle.m88_board.specs.Moves.{IsAt}
use Rattle.m88_board.specs.declared.walk.Walk.{Walk}
use Rattle.m88_event.specs.Bound.{weight}
use Rattle.m88_event.specs.Letters.{letter_at}
use Rattle.m88_event.specs.Timeline.{Moment, Run, after_letter}
use Rattle.m88_isa.specs.History.{bus_at, pending_at}
use Rattle.m88_isa.specs.Machine.{IsProgram, Program, state}
use Rattle.m88_trace.specs.Inside.Sheets.{AreMade, sheet_accesses, sheet_text}
use Rattle.m88_trace.specs.Trace.{trace_at}
use Rattle.m88_trace.specs.declared.sheet.Sheet.{Sheet}
use Rattle.m88_trace.specs.declared.upcoming.Upcoming.{Upcoming}

-- a sheet has the trace at a moment, once the pending transactions have the data that they get
pub record IsTraced (p : Program) (m : Moment) (s : Sheet) : Type 0 where
  pub text : sheet_text s (bus_at p m.retired m.done) ≡ trace_at p m
  pub waiting : sheet_accesses s ≡ pending_at p m.retired m.done

-- the next instruction at a moment: its number, and where no bubble is before it its address
pub record IsNext (p : Program) (m : Moment) (next : Upcoming) : Type 0 where
  pub number : next.number ≡ m.retired
  pub place : m.bubble ≡ false → next.at ≡ (state p m.retired).pc

-- the next event of a walk is made, and what it adds to the trace is written
pub record HasTracedStep (w v : Walk) (s t : Sheet) : Type 0 where
  pub made : AreMade t
  pub at : (r : Run) (m : Moment) → IsAt r m w.board.now
      → IsAt r (after_letter r (letter_at w.schedule.now w.taken) m) v.board.now
  pub traced : (r : Run) (m : Moment) → IsProgram r.program → IsAt r m w.board.now → IsTraced r.program m s
      → IsTraced r.program (after_letter r (letter_at w.schedule.now w.taken) m) t
  pub taken : v.taken ≡ w.taken + 1
  pub lighter : weight v.schedule.now v.board.now.limit v.taken (local_of v.board.now)
      < weight w.schedule.now w.board.now.limit w.taken (local_of w.board.now)
  pub stays : StaysOnRun w v
