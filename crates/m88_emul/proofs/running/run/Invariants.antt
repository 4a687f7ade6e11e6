-- The board looks as the moment of the timeline does after as many letters, and what is left of the run is bounded.
use Rattle.std.proofs.Common.{◌≡◌, ◌≤◌, ◌+◌, ◌*◌, false, length}
use Rattle.m88_ctrl.specs.ControlRegisters.{mxm_of}
use Rattle.m88_event.specs.Bound.{weight}
use Rattle.m88_isa.specs.ImageProgram.{IsProgramOf}
use Rattle.m88_isa.specs.Machine.{Program}
use Rattle.m88_mem.specs.Marks.{absent_in}
use Rattle.m88_board.specs.Board.{local_of}
use Rattle.m88_emul.proofs.Walks.{IsThere}
use Rattle.m88_emul.proofs.running.run.Given as goal
use Rattle.m88_event.specs.Timeline.{run_with}

abbrev pub invariant-loop-board : goal.invariant-loop-board
invariant-loop-board l = record {
  limit : l.board.limit ≡ l.limit;
  clear : mxm_of l.board.control ≡ false;
  image : l.board.memory.image ≡ l.image;
  counted : l.board.events ≡ l.taken;
  room : l.taken + weight l.schedule l.limit l.taken (local_of l.board) ≤ length l.schedule + 8 * l.limit + 8;
  there : (p : Program) → IsProgramOf l.image p → p.mxm ≡ false
      → IsThere (run_with p (absent_in l.absent) l.limit l.schedule) l.taken (local_of l.board) l.emulated.items;
}

abbrev pub decreases-loop-board : goal.decreases-loop-board
decreases-loop-board l = weight l.schedule l.limit l.taken (local_of l.board)
