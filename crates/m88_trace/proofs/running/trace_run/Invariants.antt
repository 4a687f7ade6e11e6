-- After so many events the board stands at the moment of the run, and the sheet has its trace.
use Rattle.std.proofs.Common.{◌≡◌, false}
use Rattle.m88_event.specs.Bound.{weight}
use Rattle.m88_isa.specs.ImageProgram.{IsProgramOf}
use Rattle.m88_isa.specs.Machine.{Program}
use Rattle.m88_mem.specs.Marks.{absent_in}
use Rattle.m88_board.specs.Board.{local_of}
use Rattle.m88_trace.proofs.Runs.{Runs}
use Rattle.m88_trace.specs.Inside.Sheets.{AreMade}
use Rattle.m88_trace.proofs.running.trace_run.Given as goal
use Rattle.m88_event.specs.Timeline.{run_with}

abbrev pub invariant-loop-walk : goal.invariant-loop-walk
invariant-loop-walk l = record {
  limit : l.walk.board.now.limit ≡ l.fn.limit;
  schedule : l.walk.schedule.now ≡ l.fn.schedule;
  made : AreMade l.sheet;
  runs : (p : Program) → IsProgramOf l.fn.image p → p.mxm ≡ false
      → Runs (run_with p (absent_in l.fn.absent) l.fn.limit l.fn.schedule) l.walk.taken l.walk.board.now l.sheet;
}

abbrev pub decreases-loop-walk : goal.decreases-loop-walk
decreases-loop-walk l = weight l.walk.schedule.now l.walk.board.now.limit l.walk.taken (local_of l.walk.board.now)
