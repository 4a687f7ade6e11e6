-- What software does for an instruction that the chip leaves to it ("Exception Processing": integer divide exception,
-- misaligned access exception): a signed division where a number is negative, and a load or store of a half, a word or
-- a double at an address that isn't a multiple of its size. An exchange isn't among them.
use Rattle.std.specs.Prelude.{ℕ, zero, suc, Bool, true, false, not, List, [], ◌∷◌, ◌++◌, Option, Some, None, ◌+◌, ◌-◌, ◌*◌, ◌/◌, ◌%◌, ◌^◌, ◌==◌, length, nat_le, nat_lt, if◌then◌else◌}
use Rattle.m88_base.specs.Reg.{with_register}
use Rattle.m88_base.specs.declared.reg.Reg.{Reg}
use Rattle.m88_isa.specs.Address.{address, after_bytes}
use Rattle.m88_isa.specs.Effect.{meaning_of, Meaning, goes, raises, register, traps}
use Rattle.m88_isa.specs.Lanes.{widened}
use Rattle.m88_isa.specs.Memory.{Touch, size_of, store}
use Rattle.m88_isa.specs.Operands.{register_after}
use Rattle.m88_isa.specs.Vector.{bad_division, misaligned}
use Rattle.m88_isa.specs.declared.instr.Instr.{Instr}
use Rattle.m88_isa.specs.declared.instr.Instr.TheVariants as instr
use Rattle.m88_isa.specs.declared.instr.ImmOp.TheVariants as immop
use Rattle.m88_isa.specs.declared.instr.RegOp.TheVariants as regop
use Rattle.m88_isa.specs.declared.instr.MemOp.{MemOp}
use Rattle.m88_isa.specs.declared.instr.MemOp.TheVariants as memop

-- what software does for an instruction: the registers that it writes, in order, each with its value; the bytes that it
-- stores, in order, each as a store of one byte; and the places of all bytes that it loads or stores
pub record Aid : Type 0 where
  pub writes : List (Reg × ℕ)
  pub stores : List Touch
  pub places : List ℕ

-- a word read as a signed number is negative
abbrev pub is_negative : ℕ → Bool
is_negative s = nat_le (2 ^ 31) s

-- how far that number is from 0
abbrev pub magnitude : ℕ → ℕ
magnitude s = if is_negative s then 2 ^ 32 - s else s

-- exactly one of two words is negative
abbrev pub have_other_signs : ℕ → ℕ → Bool
have_other_signs s t = if is_negative s then not (is_negative t) else is_negative t

-- the word of a signed number, by whether it is to be negative and how far it is from 0; none where it is 2^31 or more
abbrev pub signed_word : Bool → ℕ → Option ℕ
signed_word true far = Some ((2 ^ 32 - far) % 2 ^ 32)
signed_word false far = if nat_lt far (2 ^ 31) then Some far else None

-- the quotient of two signed words, rounded towards 0; none by 0, or where it is 2^31
abbrev pub quotient_of : ℕ → ℕ → Option ℕ
quotient_of s t =
    if t == 0 then None else signed_word (have_other_signs s t) (magnitude s / magnitude t)

-- a register takes a quotient
abbrev pub takes_quotient : Reg → ℕ → Aid
takes_quotient d quotient = record { writes = (d, quotient) ∷ []; stores = []; places = [] }

-- a division that has a quotient
abbrev pub divides : Reg → Option ℕ → Option Aid
divides d None = None
divides d (Some quotient) = Some (takes_quotient d quotient)

-- so many places from one on, modulo 2^32
unfoldable pub places_from : ℕ → ℕ → List ℕ
places_from place zero = []
places_from place (suc count) = place ∷ places_from (after_bytes place 1) count

-- the big-endian number of the bytes at some places, read one by one, behind what was read before
unfoldable pub number_behind : (ℕ → ℕ) → ℕ → List ℕ → ℕ
number_behind memory front [] = front
number_behind memory front (a ∷ places) = number_behind memory (front * 2 ^ 8 + memory a) places

-- a datum of some bytes from a place on, extended as its form says
abbrev pub datum_at : (ℕ → ℕ) → Bool → ℕ → ℕ → ℕ
datum_at memory signed size place = widened signed size (number_behind memory 0 (places_from place size))

-- the low bytes of a value, the highest first, each stored at its place
unfoldable pub byte_stores : ℕ → List ℕ → List Touch
byte_stores value [] = []
byte_stores value (a ∷ places) =
    store 1 (value / 2 ^ (8 * length places)) a ∷ byte_stores value places

-- a load of one datum into a register
abbrev pub loads_one : (ℕ → ℕ) → Bool → ℕ → Reg → ℕ → Aid
loads_one memory signed size d place =
    record { writes = (d, datum_at memory signed size place) ∷ []; stores = []; places = places_from place size }

-- a store of one datum
abbrev pub stores_one : ℕ → ℕ → ℕ → Aid
stores_one size value place =
    record { writes = []; stores = byte_stores value (places_from place size); places = places_from place size }

-- a load of a double: its second word is for the register after D
abbrev pub loads_two : (ℕ → ℕ) → Reg → ℕ → Aid
loads_two memory d place = record {
  writes =
      (d, datum_at memory false 4 place) ∷ (register_after d, datum_at memory false 4 (after_bytes place 4)) ∷ [];
  stores = [];
  places = places_from place 8;
}

-- a store of a double
abbrev pub stores_two : ℕ → ℕ → ℕ → Aid
stores_two value second place = record {
  writes = [];
  stores = byte_stores value (places_from place 4) ++ byte_stores second (places_from (after_bytes place 4) 4);
  places = places_from place 8;
}

-- a load or store of a half, a word or a double at a place; nothing else has an aid
abbrev pub unaligned : MemOp → Reg → ℕ → List ℕ → (ℕ → ℕ) → Option Aid
unaligned memop.LdHu d place regs memory = Some (loads_one memory false 2 d place)
unaligned memop.LdH d place regs memory = Some (loads_one memory true 2 d place)
unaligned memop.Ld d place regs memory = Some (loads_one memory false 4 d place)
unaligned memop.LdD d place regs memory = Some (loads_two memory d place)
unaligned memop.StH d place regs memory = Some (stores_one 2 (register regs d) place)
unaligned memop.St d place regs memory = Some (stores_one 4 (register regs d) place)
unaligned memop.StD d place regs memory =
    Some (stores_two (register regs d) (register regs (register_after d)) place)
unaligned _ d place regs memory = None

-- an aid that is for one vector alone
abbrev pub for_vector : ℕ → ℕ → Option Aid → Option Aid
for_vector wanted vector aid = if vector == wanted then aid else None

-- the aid for an instruction that raised a vector, of the registers and of memory by bytes, if there is one: `div` and
-- the vector of a division, a load or store and that of a misaligned access
abbrev pub aid_for : Instr → ℕ → List ℕ → (ℕ → ℕ) → Option Aid
aid_for (instr.Imm immop.Div d s1 imm) vector regs memory =
    for_vector bad_division vector (divides d (quotient_of (register regs s1) imm))
aid_for (instr.Regs regop.Div d s1 s2) vector regs memory =
    for_vector bad_division vector (divides d (quotient_of (register regs s1) (register regs s2)))
aid_for (instr.MemImm op d s1 imm) vector regs memory =
    for_vector misaligned vector (unaligned op d (address (register regs s1) imm 1) regs memory)
aid_for (instr.MemReg op d s1 s2 scaled usr) vector regs memory =
    for_vector misaligned vector
    (unaligned op d (address (register regs s1) (register regs s2) (if scaled then size_of op else 1)) regs memory)
aid_for _ vector regs memory = None

-- a meaning that raises a vector
abbrev pub is_raise : Meaning → ℕ → Bool
is_raise (raises raised) vector = raised == vector
is_raise (traps trap) vector = false
is_raise (goes change) vector = false

-- an instruction raises a vector with these registers, MXM clear. What a division and an access raise is the same with
-- each carry and at each address; here the carry is clear and the address 0.
abbrev pub raises_with : Instr → List ℕ → ℕ → Bool
raises_with i regs vector = is_raise (meaning_of i regs false false 0 4) vector

-- what software does for an instruction by a vector, if it does: the aid for it, where it raises that vector
abbrev pub aid_of : Instr → ℕ → List ℕ → (ℕ → ℕ) → Option Aid
aid_of i vector regs memory =
    if raises_with i regs vector then aid_for i vector regs memory else None

-- the registers after some are written, in order; what is written to r0 is lost
unfoldable pub with_all : List (Reg × ℕ) → List ℕ → List ℕ
with_all [] regs = regs
with_all (w ∷ writes) regs = with_all writes (with_register w.0 w.1 regs)
