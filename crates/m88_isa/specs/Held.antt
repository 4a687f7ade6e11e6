-- Why an instruction isn't issued yet while transactions are pending ("Instruction Unit": scoreboard).
use Rattle.std.specs.Prelude.{ℕ, zero, suc, Bool, true, false, List, [], ◌∷◌, Option, Some, None, ◌+◌, ◌==◌, ◌&&◌, ◌||◌, length, nat_lt, if◌then◌else◌}
use Rattle.std.specs.Int.{bit_at}
use Rattle.m88_isa.specs.Bus.{waits_for}
use Rattle.m88_isa.specs.Machine.{Program, Turn, changes, four_bytes, outputs, stops}
use Rattle.m88_isa.specs.Operands.{uses_of, waits_for_empty, writes_of}
use Rattle.m88_isa.specs.declared.planned.Access.{Access}
use Rattle.m88_isa.specs.declared.instr.Instr.{Instr}

-- it uses or writes a register that waits for a load, the data unit has no room for its accesses, or it waits until
-- the data unit is empty
pub data Hold : Type 0 where
  busy : ℕ → Hold
  full : Hold
  sync : Hold

-- the transactions that may be pending
abbrev pub most_pending : ℕ
most_pending = 3

-- the instruction of the word that was fetched, if it could be fetched and is one
abbrev pub fetched_instruction : Option (List ℕ) → Option Instr → Option Instr
fetched_instruction None i = None
fetched_instruction (Some word) i = i

-- the instruction at an address, if it can be fetched and is one
abbrev pub instruction_at : Program → ℕ → Option Instr
instruction_at p a = fetched_instruction (four_bytes p.byte a) (p.instruction a)

-- it uses or writes a register; a word that isn't fetched or is no instruction uses none
abbrev pub involves : Option Instr → ℕ → Bool
involves None register = false
involves (Some i) register = bit_at (uses_of i) register == 1 || bit_at (writes_of i) register == 1

-- the least of so many numbers from a start on that passes a test
unfoldable pub first_from : ℕ → ℕ → (ℕ → Bool) → Option ℕ
first_from start zero test = None
first_from start (suc count) test = if test start then Some start else first_from (start + 1) count test

-- the least register other than r0 that it uses or writes and that waits
unfoldable pub busy_register : Option Instr → List Access → Option ℕ
busy_register i pending = first_from 1 31 (λ register. involves i register && waits_for pending register)

-- its accesses would be too many; whatever raises or traps makes none
abbrev pub exceeds : Turn → ℕ → Bool
exceeds (changes change) pending = nat_lt most_pending (pending + length change.touches)
exceeds (outputs byte) pending = false
exceeds (stops stop) pending = false

-- the program ends by it
abbrev pub is_stop : Turn → Bool
is_stop (changes change) = false
is_stop (outputs byte) = false
is_stop (stops stop) = true

-- it waits for an empty data unit: it can't be fetched, is no instruction, raises, or is a conditional trap, taken or
-- not
abbrev pub needs_empty : Option Instr → Turn → Bool
needs_empty None turn = true
needs_empty (Some i) turn = waits_for_empty i || is_stop turn

-- something is pending
abbrev pub is_pending : List Access → Bool
is_pending [] = false
is_pending (a ∷ pending) = true

-- the first reason that holds
abbrev pub first_reason : Option ℕ → Bool → Bool → Option Hold
first_reason (Some register) no_room waits = Some (busy register)
first_reason None no_room waits = if no_room then Some full else if waits then Some sync else None

-- why an instruction with its turn is held while some transactions are pending, if it is
abbrev pub held : Option Instr → Turn → List Access → Option Hold
held i turn pending =
    first_reason (busy_register i pending) (exceeds turn (length pending)) (is_pending pending && needs_empty i turn)
