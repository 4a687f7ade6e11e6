-- So many lines are read, and the follower stands behind the steps that they tell.
use Rattle.std.proofs.Common.{◌≡◌, ◌≤◌, ◌+◌, false, length}
use Rattle.m88_isa.specs.ImageProgram.{IsProgramOf}
use Rattle.m88_isa.specs.Machine.{Program}
use Rattle.m88_trace.proofs.Reading.{Reads}
use Rattle.m88_trace.specs.Inside.Doings.{IsReady, seen_by_follower}
use Rattle.m88_trace.proofs.checking.check_trace.Given as goal

abbrev pub invariant-loop-rest : goal.invariant-loop-rest
invariant-loop-rest l = record {
  ready : IsReady l.follower;
  image : l.follower.memory.image ≡ l.fn.image;
  counted : l.count + length l.rest ≤ length l.fn.text;
  reads : (p : Program) → IsProgramOf l.fn.image p → p.mxm ≡ false
      → Reads p l.fn.text l.rest l.count (seen_by_follower l.follower) l.ended;
}

abbrev pub decreases-loop-rest : goal.decreases-loop-rest
decreases-loop-rest l = length l.rest
