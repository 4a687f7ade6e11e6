-- The sequential machine: a program's instructions one after the other, each finished before the next begins, with all
-- of memory there ("Exception Processing" for how a program ends). It knows no pipeline and no page.
use Rattle.std.specs.Prelude.{ℕ, zero, suc, Bool, false, List, [], ◌∷◌, ◌++◌, Option, Some, None, IfSome, ◌<◌, ◌+◌, ◌^◌, unwrap_or, replicate, if◌then◌else◌}
use Rattle.m88_base.specs.declared.reg.Reg.{Reg}
use Rattle.m88_base.specs.Reg.{with_register}
use Rattle.m88_isa.specs.Address.{after_bytes, word_address}
use Rattle.m88_isa.specs.Effect.{Change, Meaning, goes, meaning_of, raises, traps}
use Rattle.m88_isa.specs.Instr.{IsValid}
use Rattle.m88_isa.specs.Lanes.{number_at, stored_at, widened}
use Rattle.m88_isa.specs.Memory.{Touch}
use Rattle.m88_isa.specs.Monitor.{service_of}
use Rattle.m88_isa.specs.Vector.{instruction_access, unimplemented}
use Rattle.m88_isa.specs.declared.instr.Instr.{Instr}
use Rattle.m88_isa.specs.declared.monitor.Service.{Service}
use Rattle.m88_isa.specs.declared.monitor.Service.TheVariants.{Out, End, Unserved}

-- what is run: a start address, the byte that stands at an address, if one does, and the instruction of the word at an
-- address, if its word is one: a source or an image says which these are; and MXM, the bit of the status that is set
-- where the addresses of accesses are rounded down in place of raising.
pub record Program : Type 0 where
  pub mxm : Bool
  pub start : ℕ
  pub byte : ℕ → Option ℕ
  pub instruction : ℕ → Option Instr

-- its bytes are bytes, and its instructions are ones that there are, as of every image and every source
pub record IsProgram (p : Program) : Type 0 where
  pub bytes : (a : ℕ) → IfSome (p.byte a) (λ byte. byte < 2 ^ 8)
  pub instructions : (a : ℕ) → IfSome (p.instruction a) IsValid

-- the 32 registers, the carry, MXM, which no step changes, the address of the instruction that is carried out next and
-- of the one that follows it, the data memory byte by byte, and the output so far
pub record State : Type 0 where
  pub regs : List ℕ
  pub carry : Bool
  pub mxm : Bool
  pub pc : ℕ
  pub next : ℕ
  pub memory : ℕ → ℕ
  pub out : List ℕ

-- at first all registers are 0, the program stands at its start, and memory has its bytes and 0 elsewhere
unfoldable pub opening : Program → State
opening p = record {
  regs = replicate 32 0;
  carry = false;
  mxm = p.mxm;
  pc = word_address p.start;
  next = after_bytes (word_address p.start) 4;
  memory = λ a. unwrap_or (p.byte a) 0;
  out = [];
}

-- the four bytes of the word at an address, where all of them are there
abbrev pub word_bytes : Option ℕ → Option ℕ → Option ℕ → Option ℕ → Option (List ℕ)
word_bytes (Some b0) (Some b1) (Some b2) (Some b3) = Some (b0 ∷ b1 ∷ b2 ∷ b3 ∷ [])
word_bytes _ _ _ _ = None

-- those of the word at an address of a program's bytes
abbrev pub four_bytes : (ℕ → Option ℕ) → ℕ → Option (List ℕ)
four_bytes byte a = word_bytes (byte a) (byte (a + 1)) (byte (a + 2)) (byte (a + 3))

-- the registers after the one that an instruction writes at once, if any
abbrev pub with_written : Option (Reg × ℕ) → List ℕ → List ℕ
with_written None regs = regs
with_written (Some written) regs = with_register written.0 written.1 regs

-- one access: a load puts the big-endian number of its bytes, extended as it asks, into its register; a store changes
-- its bytes
abbrev pub after_touch : Touch → State → State
after_touch t s = record s {
  regs =
      if t.write then s.regs
      else with_register t.register (widened t.signed t.size (number_at s.memory t.place t.size)) s.regs;
  memory = if t.write then stored_at s.memory t.place t.size t.value else s.memory;
}

-- some accesses, each from the state that the one before it left
abbrev pub after_touches : List Touch → State → State
after_touches [] s = s
after_touches (t ∷ ts) s = after_touches ts (after_touch t s)

-- the changes of an instruction, its accesses in order
abbrev pub after_change : Change → State → State
after_change c s = after_touches c.touches (record s {
  regs = with_written c.register s.regs;
  carry = c.carry;
  pc = c.after.0;
  next = c.after.1;
})

-- how a history ends. `exits address`: the program asks for its end there. `by_vector vector address`: the word there
-- can't be fetched or is no instruction, or its instruction raises the vector or is a taken trap of it that isn't
-- served.
pub data Stop : Type 0 where
  exits : ℕ → Stop
  by_vector : ℕ → ℕ → Stop

-- what an instruction does in its turn: it makes its changes, the monitor puts a byte out for it, or the program ends
pub data Turn : Type 0 where
  changes : Change → Turn
  outputs : ℕ → Turn
  stops : Stop → Turn

-- what comes of a taken trap of a vector by the service that it gets: a trap that isn't served ends the program
abbrev pub turn_of_service : Service → ℕ → ℕ → Turn
turn_of_service (Out byte) vector pc = outputs byte
turn_of_service End vector pc = stops (exits pc)
turn_of_service Unserved vector pc = stops (by_vector vector pc)

-- what a taken trap does: the monitor serves its two services, any other trap ends the program
abbrev pub trapped : ℕ → List ℕ → ℕ → Turn
trapped vector regs pc = turn_of_service (service_of vector regs) vector pc

-- what comes of what an instruction means
abbrev pub carried_out : Meaning → List ℕ → ℕ → Turn
carried_out (raises vector) regs pc = stops (by_vector vector pc)
carried_out (traps vector) regs pc = trapped vector regs pc
carried_out (goes change) regs pc = changes change

-- the same by the instruction; a word that is none is unimplemented
abbrev pub executed : Option Instr → List ℕ → Bool → Bool → ℕ → ℕ → Turn
executed None regs carry mxm pc next = stops (by_vector unimplemented pc)
executed (Some i) regs carry mxm pc next = carried_out (meaning_of i regs carry mxm pc next) regs pc

-- the same by the word that was fetched, if it could be
abbrev pub fetched : Option (List ℕ) → Option Instr → List ℕ → Bool → Bool → ℕ → ℕ → Turn
fetched None i regs carry mxm pc next = stops (by_vector instruction_access pc)
fetched (Some word) i regs carry mxm pc next = executed i regs carry mxm pc next

-- the turn of a program at an address, of the registers, the carry and MXM, with the address that follows
abbrev pub turn : Program → List ℕ → Bool → Bool → ℕ → ℕ → Turn
turn p regs carry mxm pc next = fetched (four_bytes p.byte pc) (p.instruction pc) regs carry mxm pc next

-- the turn at a state
abbrev pub turn_at : Program → State → Turn
turn_at p s = turn p s.regs s.carry s.mxm s.pc s.next

-- one step: on to the next state, with the mark that a fetched instruction is passed over, or the end
pub data Step : Type 0 where
  on : Bool → State → Step
  ends : Stop → Step

-- the state after an output: the program goes on as behind any instruction that doesn't change the flow
abbrev pub after_output : ℕ → State → State
after_output byte s = record s { out = s.out ++ (byte ∷ []); pc = s.next; next = after_bytes s.next 4 }

-- the step that a turn makes from a state
abbrev pub stepped : Turn → State → Step
stepped (changes change) s = on change.bubble (after_change change s)
stepped (outputs byte) s = on false (after_output byte s)
stepped (stops stop) s = ends stop

-- the step from a state: the word is fetched, and then its instruction is carried out
abbrev pub step : Program → State → Step
step p s = stepped (turn_at p s) s

-- the state after a step; after the end it stays as it is
abbrev pub state_after : Step → State → State
state_after (on bubble next) s = next
state_after (ends stop) s = s

-- the history: the state after some steps. From the end on it is the state at which the program ended.
unfoldable pub state : Program → ℕ → State
state p zero = opening p
state p (suc n) = state_after (step p (state p n)) (state p n)
