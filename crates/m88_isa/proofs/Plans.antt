-- One law on what an instruction does: it raises a listed vector, takes a trap to one of the user's vectors, or goes on
-- with its count of accesses, each aligned and one that the data unit can make, and writes no register outside its set.
use Rattle.std.specs.Prelude.{ℕ, ℤ, Bool, true, false, IfSome, List, [], ◌∷◌, ◌≡◌, ◌≤◌, ◌<◌, ◌%◌, ◌-◌, ◌^◌, ◌==◌, ◌||◌, ◌&&◌, not, nat_le, nat_lt, length, if◌then◌else◌}
use Rattle.std.specs.Int.{bit_at, bit_not, w32}
use Rattle.std.proofs.Common.{arith, refl, sym, subst, inl, inr}
use Rattle.std.proofs.lemmas.Bool.{eqb-true, ltb-false, false≢true}
use Rattle.m88_base.specs.declared.reg.Reg.{Reg}
use Rattle.m88_base.specs.Reg.{number_of}
use Rattle.m88_isa.proofs.Alone.{by_test, in_left, in_own}
use Rattle.m88_isa.proofs.TouchedBytes.{one_of_four}
use Rattle.m88_isa.specs.Address.{address, after_bytes, scale_of, word_address}
use Rattle.m88_isa.specs.Compute.{exact_signed_sum, fits_signed, immediate, registers, signed_quotient, signed_sum, unsigned_quotient}
use Rattle.m88_isa.specs.Effect.{AreAligned, Change, MakesAccesses, Meaning, RaisesListed, TouchesAligned, TrapsForUser, WritesWithin, accesses, branches, checks, computes, controls, effect, flows, goes, goes_on, indexed, inputs_of, meaning_of, plan_for, raises, traps, traps_if, written}
use Rattle.m88_isa.specs.Fields.{bit_field, find_bit, offset_in, width_in, width_of}
use Rattle.m88_isa.specs.Flow.{bit_is, class_in, words_away}
use Rattle.m88_isa.specs.Instr.{IsValid}
use Rattle.m88_isa.specs.Lanes.{IsAligned, IsEnable, enable_of}
use Rattle.m88_isa.specs.Memory.{AreWordAccesses, IsWordAccess, Touch, access_of, first_half, load, locked, recorded, rounded, size_of, store, touches_of}
use Rattle.m88_isa.specs.Operands.{access_count_of, accesses_of, bit_of, is_flow, link_register, no_register, pair_of, register_after, register_if, writes_of}
use Rattle.m88_isa.specs.Vector.{IsRaised, first_user_vector, misaligned, overflow, unit_vector}
use Rattle.m88_isa.specs.declared.planned.Computed.{Computed}
use Rattle.m88_isa.specs.declared.planned.Computed.TheVariants.{Gives, Raises}
use Rattle.m88_isa.specs.declared.planned.Inputs.{Inputs}
use Rattle.m88_isa.specs.declared.instr.ImmOp.{ImmOp}
use Rattle.m88_isa.specs.declared.instr.ImmOp.TheVariants as immop
use Rattle.m88_isa.specs.declared.instr.Instr.{Instr}
use Rattle.m88_isa.specs.declared.instr.Instr.TheVariants as instr
use Rattle.m88_isa.specs.declared.instr.MemOp.{MemOp}
use Rattle.m88_isa.specs.declared.instr.MemOp.TheVariants as memop
use Rattle.m88_isa.specs.declared.instr.RegOp.{RegOp}
use Rattle.m88_isa.specs.declared.instr.RegOp.TheVariants as regop

-- a vector that instructions raise, which is the supervisor's
abbrev pub IsListed : ℕ → Type 0
IsListed vector = (vector < first_user_vector) × IsRaised vector

-- a list of that many accesses, each aligned and one that the data unit can make
pub record AllFit (count : ℕ) (touches : List Touch) : Type 0 where
  pub counted : length touches ≡ count
  pub made : AreWordAccesses count (recorded touches)
  pub aligned : AreAligned touches

-- the law of a count of accesses and a set of registers
abbrev pub IsLawful : ℕ → ℕ → Meaning → Type 0
IsLawful count set (raises vector) = IsListed vector
IsLawful count set (traps vector) = (first_user_vector ≤ vector) × (vector < 512)
IsLawful count set (goes change) =
    AllFit count change.touches × IfSome change.register (λ write. bit_at set (number_of write.0) ≡ 1)

-- one of the vectors 4 to 9
early : (vector : ℕ) → misaligned ≤ vector → vector ≤ overflow → IsListed vector
early vector least most = (omega (arith, most), inl (least, most))

unit_listed : (unit : ℕ) → 1 ≤ unit → unit < 8 → IsListed (unit_vector unit)
unit_listed unit least most = by_test (unit == 1)
    (λ first. rw first (omega arith, inr (inl refl)))
    (λ other. rw other (omega (arith, most), inr (inr (omega (arith, least), omega (arith, most), omega arith))))

-- what is computed raises a listed vector or none
abbrev ComputesListed : Computed → Type 0
ComputesListed (Gives value carry) = Unit {0}
ComputesListed (Raises vector) = IsListed vector

sum_listed : (carry_out carry_in carry : Bool) (s t : ℕ) → ComputesListed (signed_sum carry_out carry_in carry s t)
sum_listed carry_out carry_in carry s t = by_test (fits_signed (exact_signed_sum carry_in s t))
    (λ fits. rw fits tt)
    (λ not. rw not (early 9 (omega arith) (omega arith)))

unsigned_listed : (carry : Bool) (s t : ℕ) → ComputesListed (unsigned_quotient carry s t)
unsigned_listed carry s t = by_test (t == 0) (λ zero. rw zero (early 8 (omega arith) (omega arith))) (λ not. rw not tt)

signed_listed : (carry : Bool) (s t : ℕ) → ComputesListed (signed_quotient carry s t)
signed_listed carry s t = by_test (t == 0 || nat_le (2 ^ 31) s || nat_le (2 ^ 31) t)
    (λ bad. rw bad (early 8 (omega arith) (omega arith)))
    (λ good. rw good tt)

immediate_listed : (op : ImmOp) (carry : Bool) (s t : ℕ) → ComputesListed (immediate op carry s t)
immediate_listed immop.Divu carry s t = unsigned_listed carry s t
immediate_listed immop.Add carry s t = sum_listed false false carry s t
immediate_listed immop.Sub carry s t = sum_listed false true carry s (bit_not w32 t)
immediate_listed immop.Div carry s t = signed_listed carry s t
immediate_listed _ carry s t = tt

registers_listed : (op : RegOp) (carry : Bool) (s t : ℕ) → ComputesListed (registers op carry s t)
registers_listed regop.Divu carry s t = unsigned_listed carry s t
registers_listed regop.Add carry s t = sum_listed false false carry s t
registers_listed regop.Sub carry s t = sum_listed false true carry s (bit_not w32 t)
registers_listed regop.Div carry s t = signed_listed carry s t
registers_listed regop.AddCo carry s t = sum_listed true false carry s t
registers_listed regop.AddCi carry s t = sum_listed false carry carry s t
registers_listed regop.AddCio carry s t = sum_listed true carry carry s t
registers_listed regop.SubCo carry s t = sum_listed true true carry s (bit_not w32 t)
registers_listed regop.SubCi carry s t = sum_listed false carry carry s (bit_not w32 t)
registers_listed regop.SubCio carry s t = sum_listed true carry carry s (bit_not w32 t)
registers_listed _ carry s t = tt

-- the enable of 1, 2 or 4 bytes at a place aligned to them is one of the seven
one_byte : (place : ℕ) → IsEnable (enable_of place 1)
one_byte place = elim (one_of_four (place % 4) (omega arith)) [
  | inl o ↦ subst (λ k. IsEnable (2 ^ (3 - k))) (sym o) (inr (inr (inr (inl refl))))
  | inr (inl o) ↦ subst (λ k. IsEnable (2 ^ (3 - k))) (sym o) (inr (inr (inr (inr (inl refl)))))
  | inr (inr (inl o)) ↦ subst (λ k. IsEnable (2 ^ (3 - k))) (sym o) (inr (inr (inr (inr (inr (inl refl))))))
  | inr (inr (inr o)) ↦ subst (λ k. IsEnable (2 ^ (3 - k))) (sym o) (inr (inr (inr (inr (inr (inr refl))))))
]

one_half : (place : ℕ) → IsEnable (enable_of place 2)
one_half place = by_test (place % 4 == 0)
    (λ first. rw first (inr (inl refl)))
    (λ second. rw second (inr (inr (inl refl))))

enabled : (place size : ℕ) → IsAligned place size → IsEnable (enable_of place size)
enabled place size aligned = elim aligned [
  | inl one ↦ subst (λ n. IsEnable (enable_of place n)) (sym one) (one_byte place)
  | inr (inl half) ↦ subst (λ n. IsEnable (enable_of place n)) (sym half.0) (one_half place)
  | inr (inr word) ↦ subst (λ n. IsEnable (enable_of place n)) (sym word.0) (inl refl)
]

-- an access that is aligned and that the data unit can make
abbrev Fits : Touch → Type 0
Fits t = IsWordAccess (access_of t) × IsAligned t.place t.size

load_fits : (size : ℕ) (signed : Bool) (d : Reg) (place : ℕ) → IsAligned place size → Fits (load size signed d place)
load_fits size signed d place aligned =
    ((omega arith, enabled place size aligned, λ h. absurd (false≢true h), λ h. refl), aligned)

store_fits : (size value place : ℕ) → IsAligned place size → Fits (store size value place)
store_fits size value place aligned =
    ((omega arith, enabled place size aligned, λ h. (refl, refl), λ h. absurd (false≢true (sym h))), aligned)

-- no access, one or two in order, and nothing behind them
no_accesses : AllFit 0 []
no_accesses = record {
  counted = refl;
  made = (refl, λ h. absurd (omega (arith, h)), λ h. absurd (omega (arith, h)), λ h. refl, λ h. refl);
  aligned = tt;
}

one_fits : (t : Touch) → Fits t → AllFit 1 (t ∷ [])
one_fits t is = record {
  counted = refl;
  made = (refl, λ h. is.0, λ h. absurd (omega (arith, h)), λ h. absurd (omega (arith, h)), λ h. refl);
  aligned = (is.1, tt);
}

two_fit : (t u : Touch) → Fits t → Fits u → AllFit 2 (t ∷ u ∷ [])
two_fit t u is are = record {
  counted = refl;
  made = (refl, λ h. is.0, λ h. are.0, λ h. absurd (omega (arith, h)), λ h. absurd (omega (arith, h)));
  aligned = (is.1, (are.1, tt));
}

-- the accesses of each memory mnemonic at a multiple of its size
touches_fit : (op : MemOp) (d : Reg) (value second place : ℕ) →
    place % size_of op ≡ 0 →
    AllFit (accesses_of op) (touches_of op d value second place)
touches_fit memop.XmemBu d value second place h =
    two_fit (locked (load 1 false d place)) (locked (store 1 value place))
    (load_fits 1 false d place (inl refl)) (store_fits 1 value place (inl refl))
touches_fit memop.Xmem d value second place h =
    two_fit (locked (load 4 false d place)) (locked (store 4 value place))
    (load_fits 4 false d place (inr (inr (refl, h)))) (store_fits 4 value place (inr (inr (refl, h))))
touches_fit memop.LdHu d value second place h =
    one_fits (load 2 false d place) (load_fits 2 false d place (inr (inl (refl, h))))
touches_fit memop.LdBu d value second place h = one_fits (load 1 false d place) (load_fits 1 false d place (inl refl))
touches_fit memop.LdD d value second place h =
    two_fit (first_half (load 4 false d place)) (load 4 false (register_after d) (after_bytes place 4))
    (load_fits 4 false d place (inr (inr (refl, omega (arith, h)))))
    (load_fits 4 false (register_after d) (after_bytes place 4) (inr (inr (refl, omega (arith, h)))))
touches_fit memop.Ld d value second place h =
    one_fits (load 4 false d place) (load_fits 4 false d place (inr (inr (refl, h))))
touches_fit memop.LdH d value second place h =
    one_fits (load 2 true d place) (load_fits 2 true d place (inr (inl (refl, h))))
touches_fit memop.LdB d value second place h = one_fits (load 1 true d place) (load_fits 1 true d place (inl refl))
touches_fit memop.StD d value second place h =
    two_fit (first_half (store 4 value place)) (store 4 second (after_bytes place 4))
    (store_fits 4 value place (inr (inr (refl, omega (arith, h)))))
    (store_fits 4 second (after_bytes place 4) (inr (inr (refl, omega (arith, h)))))
touches_fit memop.St d value second place h =
    one_fits (store 4 value place) (store_fits 4 value place (inr (inr (refl, h))))
touches_fit memop.StH d value second place h =
    one_fits (store 2 value place) (store_fits 2 value place (inr (inl (refl, h))))
touches_fit memop.StB d value second place h = one_fits (store 1 value place) (store_fits 1 value place (inl refl))

-- a place that is rounded down is such a multiple, and no higher
pub rounded_fits : (op : MemOp) (place : ℕ) → (rounded op place % size_of op ≡ 0) × (rounded op place ≤ place)
rounded_fits memop.XmemBu place = (omega arith, omega arith)
rounded_fits memop.Xmem place = (omega arith, omega arith)
rounded_fits memop.LdHu place = (omega arith, omega arith)
rounded_fits memop.LdBu place = (omega arith, omega arith)
rounded_fits memop.LdD place = (omega arith, omega arith)
rounded_fits memop.Ld place = (omega arith, omega arith)
rounded_fits memop.LdH place = (omega arith, omega arith)
rounded_fits memop.LdB place = (omega arith, omega arith)
rounded_fits memop.StD place = (omega arith, omega arith)
rounded_fits memop.St place = (omega arith, omega arith)
rounded_fits memop.StH place = (omega arith, omega arith)
rounded_fits memop.StB place = (omega arith, omega arith)

-- the law of each kind of meaning
written_within : (d after : Reg) (value : ℕ)
    → IfSome (written d value) (λ write. bit_at (pair_of d after) (number_of write.0) ≡ 1)
written_within d after value = by_test (number_of d == 0)
    (λ zero. rw zero tt)
    (λ other.
    let own = in_left (bit_of d) (bit_of after) (number_of d) (in_own (number_of d) other) in
    rw other (rw other at own))

gives_lawful : (d : Reg) (value : ℕ) (x : Inputs) (carry : Bool)
    → IsLawful 0 (pair_of d no_register) (goes (record (goes_on x) { register = written d value; carry = carry }))
gives_lawful d value x carry = (no_accesses, written_within d no_register value)

computes_lawful : (d : Reg) (computed : Computed) (x : Inputs)
    → ComputesListed computed → IsLawful 0 (pair_of d no_register) (computes d computed x)
computes_lawful d (Gives value carry) x listed = gives_lawful d value x carry
computes_lawful d (Raises vector) x listed = listed

accesses_lawful : (set : ℕ) (op : MemOp) (d : Reg) (place : ℕ) (x : Inputs)
    → IsLawful (accesses_of op) set (accesses op d place x)
accesses_lawful set op d place x = by_test x.mxm
    (λ on. rw on (touches_fit op d x.d x.after_d (rounded op place) (rounded_fits op place).0, tt))
    (λ off. rw off (by_test (place % size_of op == 0)
    (λ t. let fit = touches_fit op d x.d x.after_d place (eqb-true (place % size_of op) 0 t) in rw t (fit, tt))
    (λ f. rw f (early 4 (omega arith) (omega arith)))))

indexed_lawful : (set : ℕ) (op : MemOp) (d : Reg) (scaled usr : Bool) (x : Inputs)
    → IsLawful (if usr then 0 else accesses_of op) set (indexed op d scaled usr x)
indexed_lawful set op d scaled true x = early 6 (omega arith) (omega arith)
indexed_lawful set op d scaled false x =
    accesses_lawful set op d (address x.s1 x.s2 (if scaled then size_of op else 1)) x

flows_lawful : (link delayed : Bool) (target : ℕ) (x : Inputs)
    → IsLawful 0 (pair_of (register_if link link_register) no_register) (flows link delayed target x)
flows_lawful true delayed target x = (no_accesses, refl)
flows_lawful false delayed target x = (no_accesses, tt)

branches_lawful : (set : ℕ) (taken delayed : Bool) (words : ℤ) (x : Inputs)
    → IsLawful 0 set (branches taken delayed words x)
branches_lawful set true delayed words x = (no_accesses, tt)
branches_lawful set false delayed words x = (no_accesses, tt)

traps_lawful : (set : ℕ) (taken : Bool) (vector : ℕ) (x : Inputs)
    → vector < 512 → IsLawful 0 set (traps_if taken vector x)
traps_lawful set true vector x bound = by_test (nat_lt vector first_user_vector)
    (λ t. rw t (early 6 (omega arith) (omega arith)))
    (λ f. rw f (ltb-false vector first_user_vector f, bound))
traps_lawful set false vector x bound = (no_accesses, tt)

checks_lawful : (set s t : ℕ) (x : Inputs) → IsLawful 0 set (checks s t x)
checks_lawful set s t x = by_test (nat_lt t s)
    (λ e. rw e (early 7 (omega arith) (omega arith)))
    (λ e. rw e (no_accesses, tt))

controls_lawful : (count set : ℕ) (float : Bool) → IsLawful count set (controls float)
controls_lawful count set true = (omega arith, inr (inl refl))
controls_lawful count set false = early 6 (omega arith) (omega arith)

-- a line for each form
pub effect_lawful : (i : Instr) (x : Inputs) → IsValid i → IsLawful (access_count_of i) (writes_of i) (effect i x)
unfolding writes_of
effect_lawful (instr.Imm op d s1 imm) x valid =
    computes_lawful d (immediate op x.carry x.s1 imm) x (immediate_listed op x.carry x.s1 imm)
effect_lawful (instr.Regs op d s1 s2) x valid =
    computes_lawful d (registers op x.carry x.s1 x.s2) x (registers_listed op x.carry x.s1 x.s2)
effect_lawful (instr.MemImm op d s1 imm) x valid =
    accesses_lawful (writes_of (instr.MemImm op d s1 imm)) op d (address x.s1 imm 1) x
effect_lawful (instr.MemReg op d s1 s2 scaled usr) x valid =
    indexed_lawful (writes_of (instr.MemReg op d s1 s2 scaled usr)) op d scaled usr x
effect_lawful (instr.Lda size d s1 s2) x valid = gives_lawful d (address x.s1 x.s2 (scale_of size)) x x.carry
effect_lawful (instr.BitLit op d s1 width offset) x valid =
    gives_lawful d (bit_field op x.s1 (width_of width) offset) x x.carry
effect_lawful (instr.BitReg op d s1 s2) x valid =
    gives_lawful d (bit_field op x.s1 (width_in x.s2) (offset_in x.s2)) x x.carry
effect_lawful (instr.Find ones d s2) x valid = gives_lawful d (find_bit ones x.s2) x x.carry
effect_lawful (instr.Branch link delayed words) x valid = flows_lawful link delayed (words_away x.pc words) x
effect_lawful (instr.BranchBit set delayed bit s1 words) x valid =
    branches_lawful (writes_of (instr.BranchBit set delayed bit s1 words)) (bit_is set bit x.s1) delayed words x
effect_lawful (instr.BranchCond delayed mask s1 words) x valid =
    branches_lawful (writes_of (instr.BranchCond delayed mask s1 words)) (class_in mask x.s1) delayed words x
effect_lawful (instr.Jump link delayed s2) x valid = flows_lawful link delayed (word_address x.s2) x
effect_lawful (instr.TrapBit set bit s1 vector) x valid =
    traps_lawful (writes_of (instr.TrapBit set bit s1 vector)) (bit_is set bit x.s1) vector x valid.1
effect_lawful (instr.TrapCond mask s1 vector) x valid =
    traps_lawful (writes_of (instr.TrapCond mask s1 vector)) (class_in mask x.s1) vector x valid.1
effect_lawful (instr.BoundImm s1 imm) x valid = checks_lawful (writes_of (instr.BoundImm s1 imm)) x.s1 imm x
effect_lawful (instr.BoundReg s1 s2) x valid = checks_lawful (writes_of (instr.BoundReg s1 s2)) x.s1 x.s2 x
effect_lawful instr.Rte x valid = early 6 (omega arith) (omega arith)
effect_lawful (instr.Ldcr d cr float) x valid = controls_lawful 0 (writes_of (instr.Ldcr d cr float)) float
effect_lawful (instr.Stcr s1 cr float) x valid = controls_lawful 0 (writes_of (instr.Stcr s1 cr float)) float
effect_lawful (instr.Xcr d s1 cr float) x valid = controls_lawful 0 (writes_of (instr.Xcr d s1 cr float)) float
effect_lawful (instr.Sfu unit rest) x valid = unit_listed unit valid.0 valid.1

-- the law of what an instruction means, in a taken delay slot too
pub lawful : (i : Instr) (regs : List ℕ) (carry mxm : Bool) (pc next : ℕ) → IsValid i
    → IsLawful (access_count_of i) (writes_of i) (meaning_of i regs carry mxm pc next)
lawful i regs carry mxm pc next valid = by_test (is_flow i && not (next == after_bytes pc 4))
    (λ t. rw t (early 5 (omega arith) (omega arith)))
    (λ f. rw f (effect_lawful i (inputs_of i regs carry mxm pc next) valid))

-- what the law says of a plan
pub made_of : (count set : ℕ) (m : Meaning) → IsLawful count set m → MakesAccesses count (plan_for m)
made_of count set (raises vector) h = tt
made_of count set (traps vector) h = tt
made_of count set (goes change) h = h.0.made

pub within_of : (count set : ℕ) (m : Meaning) → IsLawful count set m → WritesWithin set (plan_for m)
within_of count set (raises vector) h = tt
within_of count set (traps vector) h = tt
within_of count set (goes change) h = h.1

pub trapped_of : (count set : ℕ) (m : Meaning) → IsLawful count set m → TrapsForUser (plan_for m)
trapped_of count set (raises vector) h = tt
trapped_of count set (traps vector) h = h
trapped_of count set (goes change) h = tt

pub raised_of : (count set : ℕ) (m : Meaning) → IsLawful count set m → RaisesListed (plan_for m)
raised_of count set (raises vector) h = h
raised_of count set (traps vector) h = tt
raised_of count set (goes change) h = tt

aligned_of : (count set : ℕ) (m : Meaning) → IsLawful count set m → TouchesAligned m
aligned_of count set (raises vector) h = tt
aligned_of count set (traps vector) h = tt
aligned_of count set (goes change) h = h.0.aligned

pub touches_aligned : (i : Instr) (regs : List ℕ) (carry mxm : Bool) (pc next : ℕ) → IsValid i
    → TouchesAligned (meaning_of i regs carry mxm pc next)
touches_aligned i regs carry mxm pc next valid =
    aligned_of (access_count_of i) (writes_of i) (meaning_of i regs carry mxm pc next) (lawful i regs carry mxm pc next valid)

-- for the crates above: an instruction that goes on makes exactly its count of accesses, which is at most two
pub touches_counted : (i : Instr) (regs : List ℕ) (carry mxm : Bool) (pc next : ℕ) (change : Change) → IsValid i
    → meaning_of i regs carry mxm pc next ≡ goes change → length change.touches ≡ access_count_of i
touches_counted i regs carry mxm pc next change valid is =
    let law = subst (IsLawful (access_count_of i) (writes_of i)) is (lawful i regs carry mxm pc next valid) in law.0.counted

most_of : (op : MemOp) → accesses_of op ≤ 2
most_of op = grind arith

pub at_most_two : (i : Instr) → access_count_of i ≤ 2
at_most_two (instr.MemImm op d s1 imm) = most_of op
at_most_two (instr.MemReg op d s1 s2 scaled true) = omega arith
at_most_two (instr.MemReg op d s1 s2 scaled false) = most_of op
at_most_two _ = omega arith
