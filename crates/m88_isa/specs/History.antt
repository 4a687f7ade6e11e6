-- The accesses of a history as the data unit makes them, one transaction after the other, and the state of the
-- sequential machine over memory by words ("Data Unit").
use Rattle.std.specs.Prelude.{ℕ, zero, suc, Bool, List, [], ◌∷◌, ◌++◌, map, take, drop, length}
use Rattle.m88_isa.specs.Address.{after_bytes}
use Rattle.m88_isa.specs.Bus.{Cells, after_accesses, bus_after_all, in_words}
use Rattle.m88_isa.specs.Effect.{Change}
use Rattle.m88_isa.specs.Machine.{Program, State, Turn, changes, opening, outputs, state, stops, turn_at, with_written}
use Rattle.m88_isa.specs.Memory.{access_of}
use Rattle.m88_isa.specs.declared.planned.Access.{Access}

-- the accesses of a change, in order
abbrev pub change_accesses : Change → List Access
change_accesses change = map access_of change.touches

-- those of a turn
abbrev pub turn_accesses : Turn → List Access
turn_accesses (changes change) = change_accesses change
turn_accesses (outputs byte) = []
turn_accesses (stops stop) = []

-- the transactions of the first steps of a history, the oldest first
unfoldable pub transactions : Program → ℕ → List Access
transactions p zero = []
transactions p (suc n) = transactions p n ++ turn_accesses (turn_at p (state p n))

-- how many there are
abbrev pub transaction_count : Program → ℕ → ℕ
transaction_count p n = length (transactions p n)

-- those of the first steps that aren't done where the first so many are
abbrev pub pending_at : Program → ℕ → ℕ → List Access
pending_at p n done = drop done (transactions p n)

-- memory by words where the first so many transactions of the first steps are done
abbrev pub bus_at : Program → ℕ → ℕ → ℕ → ℕ
bus_at p n done = bus_after_all (take done (transactions p n)) (in_words (opening p).memory)

-- a state with memory by words: registers, carry, MXM, the address of the next instruction and of the one that follows
-- it, the words, the output
pub record Completed : Type 0 where
  pub regs : List ℕ
  pub carry : Bool
  pub mxm : Bool
  pub pc : ℕ
  pub next : ℕ
  pub bus : ℕ → ℕ
  pub out : List ℕ

-- a state of the history, with its memory by words
unfoldable pub completed_state : State → Completed
completed_state s = record {
  regs = s.regs;
  carry = s.carry;
  mxm = s.mxm;
  pc = s.pc;
  next = s.next;
  bus = in_words s.memory;
  out = s.out;
}

-- registers and words after a change: the register that is written at once, and then the accesses
abbrev pub cells_after : Change → Completed → Cells
cells_after change c =
    after_accesses (change_accesses change) (record { regs = with_written change.register c.regs; bus = c.bus })

-- such a state after a turn; after the end it stays as it is
unfoldable pub after_turn : Turn → Completed → Completed
after_turn (changes change) c = record {
  regs = (cells_after change c).regs;
  carry = change.carry;
  mxm = c.mxm;
  pc = change.after.0;
  next = change.after.1;
  bus = (cells_after change c).bus;
  out = c.out;
}
after_turn (outputs byte) c = record c { out = c.out ++ (byte ∷ []); pc = c.next; next = after_bytes c.next 4 }
after_turn (stops stop) c = c
