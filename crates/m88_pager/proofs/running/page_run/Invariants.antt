-- The board and its frames stand where the letters taken lead them.
use Rattle.std.proofs.Common.{◌≡◌, false, is_some}
use Rattle.m88_event.specs.Bound.{weight}
use Rattle.m88_isa.specs.ImageProgram.{IsProgramOf}
use Rattle.m88_isa.specs.Machine.{Program}
use Rattle.m88_mem.specs.DataBus.{image_bytes}
use Rattle.m88_mem.specs.Marks.{absent_in}
use Rattle.m88_board.specs.Board.{local_of}
use Rattle.m88_pager.proofs.Walking.{IsThere}
use Rattle.m88_pager.specs.Inside.Calls.{PutsOut}
use Rattle.m88_pager.specs.Inside.Seen.{AreWithin}
use Rattle.m88_pager.proofs.running.page_run.Given as goal
use Rattle.m88_event.specs.Timeline.{run_with}

abbrev pub invariant-loop-walk : goal.invariant-loop-walk
invariant-loop-walk g l = record {
  limit : l.walk.board.now.limit ≡ l.limit;
  schedule : l.walk.schedule.now ≡ l.fn.schedule;
  lender : l.walk.board.ghost_name ≡ l.initial.walk.board.ghost_name;
  within : AreWithin l.walk.board.now.done l.paging;
  cap : l.paging.cache.cap ≡ l.frames;
  tells : is_some (g.P.PageStore.pages l.store) ≡ is_some (g.P.PageStore.pages l.initial.store);
  clean : g.P.PageStore.faults l.store ≡ g.P.PageStore.faults l.initial.store;
  written : PutsOut 0 l.paging.outs (g.P.PageStore.writes l.initial.store) (g.P.PageStore.writes l.store);
  there : (p : Program) → IsProgramOf l.image p → p.mxm ≡ false
      → IsThere (run_with p (absent_in l.absent) l.limit l.fn.schedule) l.walk.taken (image_bytes l.image) l.frames
      l.walk.board.now l.paging (g.P.PageStore.pages l.store);
}

abbrev pub decreases-loop-walk : goal.decreases-loop-walk
decreases-loop-walk g l = weight l.walk.schedule.now l.walk.board.now.limit l.walk.taken (local_of l.walk.board.now)
