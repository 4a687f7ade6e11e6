-- The history of the machine with software behind it: that of the sequential machine, where an instruction that raises
-- has its changes in place of ending the program if software has an aid for it.
use Rattle.std.specs.Prelude.{ℕ, zero, suc, false, List, [], ◌∷◌, ◌++◌, Option, Some, None}
use Rattle.m88_isa.specs.Address.{after_bytes, word_address}
use Rattle.m88_isa.specs.Held.{instruction_at}
use Rattle.m88_isa.specs.History.{turn_accesses}
use Rattle.m88_isa.specs.Lanes.{datum_of, enable_of, stored_at}
use Rattle.m88_isa.specs.Machine.{Program, State, Turn, by_vector, opening, state_after, stepped, stops, turn_at}
use Rattle.m88_isa.specs.Memory.{Touch}
use Rattle.m88_isa.specs.declared.instr.Instr.{Instr}
use Rattle.m88_isa.specs.declared.planned.Access.{Access}
use Rattle.m88_event.specs.Timeline.{History}
use Rattle.m88_emul.specs.Aid.{Aid, aid_of, with_all}

-- what becomes of an instruction in its turn: what the machine alone makes of it, or for the vector that it raises what
-- software does
pub data Deed : Type 0 where
  alone : Turn → Deed
  aided : ℕ → Aid → Deed

-- the machine alone has its turn
abbrev pub IsAlone : Deed → Type 0
IsAlone (alone turn) = Unit {0}
IsAlone (aided vector aid) = ⊥

-- the aid for an instruction, if it could be read
abbrev pub aid_at : Option Instr → ℕ → List ℕ → (ℕ → ℕ) → Option Aid
aid_at None vector regs memory = None
aid_at (Some i) vector regs memory = aid_of i vector regs memory

-- a program that would end by a vector at an address goes on where there is an aid
abbrev pub where_aided : ℕ → ℕ → Option Aid → Deed
where_aided vector at None = alone (stops (by_vector vector at))
where_aided vector at (Some aid) = aided vector aid

-- what becomes of an instruction by the turn that it has
abbrev pub deed_of : Turn → Option Instr → List ℕ → (ℕ → ℕ) → Deed
deed_of (stops (by_vector vector at)) i regs memory = where_aided vector at (aid_at i vector regs memory)
deed_of turn i regs memory = alone turn

-- what becomes of the next instruction of a program at a state
abbrev pub deed_at : Program → State → Deed
deed_at p s = deed_of (turn_at p s) (instruction_at p s.pc) s.regs s.memory

-- memory after single bytes are stored, in order
unfoldable pub stored_all : List Touch → (ℕ → ℕ) → ℕ → ℕ
stored_all [] memory = memory
stored_all (t ∷ touches) memory = stored_all touches (stored_at memory t.place t.size t.value)

-- the state after a deed: what software does changes registers and memory, and the program goes on with the following
-- address
abbrev pub after_deed : Deed → State → State
after_deed (alone turn) s = state_after (stepped turn s) s
after_deed (aided vector aid) s = record s {
  regs = with_all aid.writes s.regs;
  pc = s.next;
  next = after_bytes s.next 4;
  memory = stored_all aid.stores s.memory;
}

-- the extended history: the state after some steps. From the end on it is the state at which the program ended.
unfoldable pub extended_state : Program → ℕ → State
extended_state p zero = opening p
extended_state p (suc n) = after_deed (deed_at p (extended_state p n)) (extended_state p n)

-- the transactions of a deed: what software stores makes none
abbrev pub deed_accesses : Deed → List Access
deed_accesses (alone turn) = turn_accesses turn
deed_accesses (aided vector aid) = []

-- the transactions of the first steps of the extended history, the oldest first
unfoldable pub transactions_before : Program → ℕ → List Access
transactions_before p zero = []
transactions_before p (suc n) = transactions_before p n ++ deed_accesses (deed_at p (extended_state p n))

-- the extended history, with its transactions
abbrev pub extended_history : Program → History
extended_history p = record { program = p; state = extended_state p; made = transactions_before p }

-- memory by bytes, as its words show it
unfoldable pub byte_seen : (ℕ → ℕ) → ℕ → ℕ
byte_seen bus a = datum_of (enable_of a 1) false (bus (word_address a))
