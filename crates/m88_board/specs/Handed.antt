-- What a board hands to software that takes an exception in the monitor's place ("Exception Processing").
use Rattle.std.specs.Prelude.{ℕ, true, false, List, [], ◌∷◌, ◌++◌, Option, Some, None, ◌≡◌, ◌<◌, ◌+◌, is_some, length, slice_index, unwrap_or}
use Rattle.m88_isa.specs.ImageProgram.{IsProgramOf}
use Rattle.m88_isa.specs.Machine.{Program, by_vector, exits}
use Rattle.m88_isa.specs.Monitor.{monitor_trap}
use Rattle.m88_isa.specs.Vector.{data_access}
use Rattle.m88_event.specs.Choice.{Choice, answer_choice, faults, finishes, serves}
use Rattle.m88_event.specs.Local.{Local, choice_by, register_seen}
use Rattle.m88_event.specs.declared.letter.Letter.TheVariants.{Issue}
use Rattle.m88_event.specs.declared.record.Record.{Record}
use Rattle.m88_mem.specs.DataBus.{absent_of}
use Rattle.m88_board.specs.Board.{BoardView, local_of}
use Rattle.m88_board.specs.Parts.{parts_with}
use Rattle.m88_board.specs.declared.parts.Parts.{Parts}

-- a board stands between two instructions: its program hasn't ended, nothing is pending, and the next instruction isn't
-- passed over
pub record IsMidway (b : BoardView) : Type 0 where
  pub going : is_some b.ended ≡ false
  pub empty : b.pending ≡ []
  pub valid : b.slots.nip.v ≡ true

-- the page of the oldest pending transaction is absent, so that the letter `r` meets a data fault
abbrev pub MeetsFault : BoardView → Type 0
MeetsFault b = answer_choice b.pending (absent_of b.memory) ≡ faults

-- the vector of the exception that a choice takes, if it takes one: a data fault, an end by a vector, or the monitor's
-- trap for either of its services
abbrev pub vector_of : Choice → Option ℕ
vector_of faults = Some data_access
vector_of (finishes (by_vector vector at)) = Some vector
vector_of (finishes (exits at)) = Some monitor_trap
vector_of (serves byte) = Some monitor_trap
vector_of _ = None

-- the letter `i` takes the exception of a vector now, or none
abbrev pub TakesNext : Option ℕ → BoardView → Type 0
TakesNext vector b =
    (p : Program) → IsProgramOf b.memory.image p → vector ≡ vector_of (choice_by p b.limit Issue (local_of b))

-- these are the registers that software finds: one that waits reads as 0
abbrev pub AreFound : Local → List ℕ → Type 0
AreFound l regs = (r : ℕ) → r < 32 → slice_index regs r ≡ unwrap_or (register_seen l.pending l.completed.regs r) 0

-- what is seen once a data fault is handed over, with the registers that are found: the event is counted, the record is
-- the last, what was pending counts as done, and memory is as it was
unfoldable pub handed_over : List ℕ → Record → Local → Local
handed_over regs fault l = record l {
  completed = record l.completed { regs = regs; bus = l.bus };
  pending = [];
  done = l.done + length l.pending;
  events = l.events + 1;
  records = l.records ++ (fault ∷ []);
}

-- the parts of a board once it is
abbrev pub parts_handed : List ℕ → Record → BoardView → Parts
parts_handed regs fault b = record (parts_with regs b) {
  done = b.done + length b.pending;
  events = b.events + 1;
  records = b.records ++ (fault ∷ []);
}
