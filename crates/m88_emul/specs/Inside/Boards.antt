-- Boards in a run with software behind them.
use Rattle.std.specs.Prelude.{ℕ, List, [], Option, Some, None, IfSome, is_some, true, false, ◌≡◌, ◌<◌, ◌+◌, ◌++◌}
use Rattle.m88_board.specs.Board.{BoardView, local_of}
use Rattle.m88_board.specs.Kept.{IsKept, most_events}
use Rattle.m88_board.specs.Moves.{IsSameRun}
use Rattle.m88_ctrl.specs.ControlRegisters.{mxm_of}
use Rattle.m88_event.specs.Local.{is_over_by, move}
use Rattle.m88_event.specs.declared.happened.End.TheVariants.{Vector}
use Rattle.m88_event.specs.declared.happened.Happened.{Happened}
use Rattle.m88_event.specs.declared.happened.Happened.TheVariants as happened
use Rattle.m88_event.specs.declared.letter.Letter.{Letter}
use Rattle.m88_isa.specs.Address.{after_bytes}
use Rattle.m88_isa.specs.ImageProgram.{IsProgramOf}
use Rattle.m88_isa.specs.Machine.{Program}
use Rattle.m88_mem.specs.DataBus.{bus_of}
use Rattle.m88_board.specs.declared.parts.Parts.{Parts}
use Rattle.m88_emul.specs.Extended.{byte_seen}
use Rattle.m88_emul.specs.Inside.Settled.{completed_by, newly_emulated, settled}
use Rattle.m88_emul.specs.Inside.Tasks.{aid_by}
use Rattle.m88_emul.specs.declared.emulation.Emulation.{Emulation}
use Rattle.m88_emul.specs.declared.task.Task.{Task}

-- the vector by which an event ended the program, if it did
abbrev pub vector_in : Happened → Option ℕ
vector_in (happened.Ended (Vector vector at)) = Some vector
vector_in _ = None

-- the parts of a board once one more instruction is retired, behind which the program goes on with the following one
abbrev pub with_one_retired : Parts → Parts
with_one_retired parts = record parts {
  last = Some parts.pc;
  pc = parts.next;
  next = after_bytes parts.next 4;
  retired = parts.retired + 1;
}

-- a board has this limit, isn't over, and one event more can be counted
pub record MayAdvance (limit : ℕ) (b : BoardView) : Type 0 where
  pub limit_is : b.limit ≡ limit
  pub going : is_over_by limit (local_of b) ≡ false
  pub few : b.events < most_events

-- a board has this limit, MXM is clear, and its program ended by this vector
pub record EndedByVector (limit vector : ℕ) (b : BoardView) : Type 0 where
  pub limit_is : b.limit ≡ limit
  pub ended : (at : ℕ) × (b.ended ≡ Some (Vector vector at))
  pub clear : mxm_of b.control ≡ false

-- a board has this limit, MXM is clear, and its program ended
pub record MayMend (limit : ℕ) (b : BoardView) : Type 0 where
  pub limit_is : b.limit ≡ limit
  pub ended : is_some b.ended ≡ true
  pub clear : mxm_of b.control ≡ false

-- a board made the event of a letter, in which its program ended by a vector, if one is told; where none is, software
-- has nothing to do
pub record HasAdvanced (limit : ℕ) (letter : Letter) (old : BoardView) (vector : Option ℕ) (new : BoardView)
    : Type 0 where
  pub moved : (p : Program) → IsProgramOf old.memory.image p → local_of new ≡ move p limit letter (local_of old)
  pub ended : IfSome vector (λ v. (at : ℕ) × (new.ended ≡ Some (Vector v at)))
  pub alone : vector ≡ None → (p : Program) → IsProgramOf old.memory.image p
      → (settled p (local_of new) ≡ local_of new) × (newly_emulated p (local_of new) ≡ [])
  pub counted : new.events ≡ old.events + 1
  pub same : IsSameRun old new
  pub kept : IsKept old × IsKept new

-- the limit is that, MXM is clear, and image and count of events stay
pub record KeepsRun (limit : ℕ) (old new : BoardView) : Type 0 where
  pub limit_is : new.limit ≡ limit
  pub image : new.memory.image ≡ old.memory.image
  pub clear : mxm_of new.control ≡ false
  pub counted : new.events ≡ old.events

-- a board that ended by a vector, once software did the instruction there, if it does, which is noted
pub record IsSettledBySoftware (limit : ℕ) (old : BoardView) (before after : List Emulation) (new : BoardView)
    : Type 0 where
  pub run : KeepsRun limit old new
  pub settled_is : (p : Program) → IsProgramOf old.memory.image p → local_of new ≡ settled p (local_of old)
  pub emulated : (p : Program) → IsProgramOf old.memory.image p → after ≡ before ++ newly_emulated p (local_of old)

-- a board goes on behind the instruction at which it ended, for which software did a task
pub record GoesOnBehind (limit : ℕ) (task : Task) (old new : BoardView) : Type 0 where
  pub run : KeepsRun limit old new
  pub mended : local_of new ≡ completed_by (aid_by task (byte_seen (bus_of old.memory))) (local_of old)
