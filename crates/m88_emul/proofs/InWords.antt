-- The extended history in bytes and in words are one.
use Rattle.std.specs.Prelude.{ℕ, zero, suc, Bool, true, false, List, [], ◌∷◌, ◌++◌, Option, Some, None, IfSome, ◌≡◌, ◌+◌, map, if◌then◌else◌}
use Rattle.std.proofs.Common.{arith, inl, refl, sym, ap, ◌∙◌}
use Rattle.std.proofs.Math.Path.{fun_ext}
use Rattle.m88_base.specs.declared.reg.Reg.{Reg}
use Rattle.m88_isa.proofs.Laws.{byte_stored, opening_bytes, touch_loads, touch_stores, turn_bytes}
use Rattle.m88_isa.specs.Address.{address, after_bytes}
use Rattle.m88_isa.specs.Bus.{bus_after, bus_after_all, in_words, loaded, stored}
use Rattle.m88_isa.specs.Effect.{register}
use Rattle.m88_isa.specs.Lanes.{AreBytes, number_at, stored_at}
use Rattle.m88_isa.specs.Machine.{IsProgram, Program, State, Turn, by_vector, changes, exits, outputs, stops}
use Rattle.m88_isa.specs.Memory.{Touch, access_of, load, size_of}
use Rattle.m88_isa.specs.Operands.{no_register, register_after}
use Rattle.m88_isa.specs.declared.instr.Instr.{Instr}
use Rattle.m88_isa.specs.declared.instr.Instr.TheVariants as instr
use Rattle.m88_isa.specs.declared.instr.ImmOp.TheVariants as immop
use Rattle.m88_isa.specs.declared.instr.RegOp.TheVariants as regop
use Rattle.m88_isa.specs.declared.instr.MemOp.{MemOp}
use Rattle.m88_isa.specs.declared.instr.MemOp.TheVariants as memop
use Rattle.m88_isa.specs.declared.planned.Access.{Access}
use Rattle.m88_emul.specs.Aid.{Aid, aid_for, byte_stores, divides, places_from, quotient_of, raises_with, unaligned}
use Rattle.m88_emul.specs.Extended.{Deed, after_deed, aid_at, aided, alone, byte_seen, deed_at, deed_of, extended_state, stored_all, where_aided}

one_byte : (memory : ℕ → ℕ) (a : ℕ) → number_at memory a 1 ≡ memory a
one_byte memory a = let e : a + 0 ≡ a = omega arith in rw e (omega arith)

store_step : (a : Access) (bus : ℕ → ℕ) → a.write ≡ true → bus_after a bus ≡ stored a bus
store_step a bus h = rw h refl

-- a byte of memory, seen in its word
pub byte_is : (memory : ℕ → ℕ) → AreBytes memory → byte_seen (in_words memory) ≡ memory
unfolding byte_seen loaded
byte_is memory bytes = fun_ext (λ a. touch_loads (load 1 false no_register a) memory bytes (inl refl) ∙ one_byte memory a)

-- stores of single bytes
abbrev pub AreSingle : List Touch → Type 0
AreSingle [] = Unit {0}
AreSingle (t ∷ ts) = (t.size ≡ 1) × (t.write ≡ true) × AreSingle ts

single_more : (ts us : List Touch) → AreSingle ts → AreSingle us → AreSingle (ts ++ us)
single_more [] us h k = k
single_more (t ∷ ts) us h k = (h.0, h.1, single_more ts us h.2 k)

single_bytes : (value : ℕ) (places : List ℕ) → AreSingle (byte_stores value places)
unfolding byte_stores
single_bytes value [] = tt
single_bytes value (a ∷ places) = (refl, refl, single_bytes value places)

all_bytes : (ts : List Touch) (memory : ℕ → ℕ) → AreBytes memory → AreBytes (stored_all ts memory)
unfolding stored_all
all_bytes [] memory bytes = bytes
all_bytes (t ∷ ts) memory bytes = all_bytes ts _ (byte_stored memory t.place t.size t.value bytes)

pub stores_agree : (ts : List Touch) (memory : ℕ → ℕ) → AreBytes memory → AreSingle ts →
    in_words (stored_all ts memory) ≡ bus_after_all (map access_of ts) (in_words memory)
unfolding stored_all bus_after_all
stores_agree [] memory bytes single = refl
stores_agree (t ∷ ts) memory bytes single =
    stores_agree ts (stored_at memory t.place t.size t.value) (byte_stored memory t.place t.size t.value bytes) single.2
    ∙ ap (bus_after_all (map access_of ts)) (touch_stores t memory bytes (inl single.0) ∙ sym (store_step (access_of t) (in_words memory) single.1))

-- what software stores, it stores byte by byte
single_unaligned : (op : MemOp) (d : Reg) (place : ℕ) (regs : List ℕ) (memory : ℕ → ℕ) →
    IfSome (unaligned op d place regs memory) (λ aid. AreSingle aid.stores)
single_unaligned memop.StD d place regs memory =
    single_more (byte_stores (register regs d) (places_from place 4)) _ (single_bytes (register regs d) (places_from place 4))
    (single_bytes (register regs (register_after d)) (places_from (after_bytes place 4) 4))
single_unaligned memop.St d place regs memory = single_bytes (register regs d) (places_from place 4)
single_unaligned memop.StH d place regs memory = single_bytes (register regs d) (places_from place 2)
single_unaligned _ d place regs memory = tt

single_where : (there : Bool) (aid : Option Aid) → IfSome aid (λ aid. AreSingle aid.stores) →
    IfSome (if there then aid else None) (λ aid. AreSingle aid.stores)
single_where true aid h = h
single_where false aid h = tt

single_division : (d : Reg) (q : Option ℕ) → IfSome (divides d q) (λ aid. AreSingle aid.stores)
single_division d None = tt
single_division d (Some q) = tt

single_aid : (i : Instr) (vector : ℕ) (regs : List ℕ) (memory : ℕ → ℕ) →
    IfSome (aid_for i vector regs memory) (λ aid. AreSingle aid.stores)
single_aid (instr.Imm immop.Div d s1 imm) vector regs memory =
    single_where _ _ (single_division d (quotient_of (register regs s1) imm))
single_aid (instr.Regs regop.Div d s1 s2) vector regs memory =
    single_where _ _ (single_division d (quotient_of (register regs s1) (register regs s2)))
single_aid (instr.MemImm op d s1 imm) vector regs memory =
    single_where _ _ (single_unaligned op d (address (register regs s1) imm 1) regs memory)
single_aid (instr.MemReg op d s1 s2 scaled usr) vector regs memory =
    single_where _ _
    (single_unaligned op d (address (register regs s1) (register regs s2) (if scaled then size_of op else 1)) regs memory)
single_aid _ vector regs memory = tt

-- a deed whose stores are single bytes
abbrev pub IsSingle : Deed → Type 0
IsSingle (alone turn) = Unit {0}
IsSingle (aided vector aid) = AreSingle aid.stores

single_found : (vector at : ℕ) (aid : Option Aid) → IfSome aid (λ aid. AreSingle aid.stores) → IsSingle (where_aided vector at aid)
single_found vector at None h = tt
single_found vector at (Some aid) h = h

single_at : (i : Option Instr) (vector : ℕ) (regs : List ℕ) (memory : ℕ → ℕ) →
    IfSome (aid_at i vector regs memory) (λ aid. AreSingle aid.stores)
single_at None vector regs memory = tt
single_at (Some i) vector regs memory = single_where (raises_with i regs vector) _ (single_aid i vector regs memory)

pub single_deed : (turn : Turn) (i : Option Instr) (regs : List ℕ) (memory : ℕ → ℕ) → IsSingle (deed_of turn i regs memory)
single_deed (stops (by_vector vector at)) i regs memory = single_found vector at _ (single_at i vector regs memory)
single_deed _ i regs memory = tt

-- memory stays bytes
deed_bytes : (d : Deed) (s : State) → AreBytes s.memory → AreBytes (after_deed d s).memory
deed_bytes (alone turn) s bytes = turn_bytes turn s bytes
deed_bytes (aided vector aid) s bytes = all_bytes aid.stores s.memory bytes

pub state_bytes : (p : Program) (n : ℕ) → IsProgram p → AreBytes (extended_state p n).memory
unfolding extended_state
state_bytes p zero is = opening_bytes p is
state_bytes p (suc n) is = deed_bytes (deed_at p (extended_state p n)) (extended_state p n) (state_bytes p n is)
