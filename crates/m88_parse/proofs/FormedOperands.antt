-- The operands of the assembly language make instructions that there are, each with the fixup that its field waits for.
use Rattle.std.proofs.Common.{◌≡◌, ℕ, zero, suc, ℤ, pos, neg_ℤ, ◌-◌, ◌/◌, ◌%◌, ◌^◌, ◌<◌, ◌≤◌, inl, inr, Bool, true, false, cond, List, [], ◌∷◌, Option, None, Some, refl, sym, subst, arith, codes, bytes_eq}
use Rattle.std.proofs.lemmas.Nat.{mod_below}
use Rattle.m88_base.specs.declared.fixup.Fixup.{Fixup}
use Rattle.m88_base.specs.declared.fixup.Kind.{Kind}
use Rattle.m88_base.specs.declared.fixup.Kind.TheVariants.{Hi16, Lo16, Pc26, Pc16, Abs32}
use Rattle.m88_isa.specs.Instr.{FitsWords, IsValid, IsWidth}
use Rattle.m88_isa.specs.declared.instr.BitOp.{BitOp}
use Rattle.m88_isa.specs.declared.instr.BitOp.TheVariants as bits
use Rattle.m88_isa.specs.declared.instr.Instr.{Instr}
use Rattle.m88_parse.specs.Language.Names.{IsBit, IsCondition, IsControl, IsControlName}
use Rattle.m88_parse.specs.Language.Operands.{AreOperands, IsDistance, IsFixup, IsGoal, IsHalfOf, IsImmediate, IsLiteral, IsPlace, IsSigned, IsValue, most_width}
use Rattle.m88_parse.specs.Language.Operands as operand
use Rattle.m88_parse.specs.Language.Pieces.{Piece}
use Rattle.m88_parse.specs.Language.Words.{bit_named, condition_named, half_named}
use Rattle.m88_parse.specs.WellFormed.{IsFixed, IsHalf}
use Rattle.m88_parse.specs.declared.unit.Value.{Value}
use Rattle.m88_parse.specs.declared.unit.Value.TheVariants.{Number, Symbol}
use Rattle.m88_parse.proofs.Law.Names.{some_same}
use Rattle.m88_parse.proofs.Law.TestsAndChoices.{chosen}

-- a number with a sign is below its modulus
pub signed_small : (modulus : ℕ) (ps : List Piece) (v : ℕ) → 0 < modulus → IsSigned modulus ps v → v < modulus
signed_small modulus [] v some h = absurd h
signed_small modulus (p ∷ []) v some h = h.1
signed_small modulus (m ∷ p ∷ []) v some h =
    subst (λ w. w < modulus) (sym h.1.3) (mod_below (modulus - h.1.0) modulus some)
signed_small modulus (m ∷ p ∷ q ∷ ps) v some h = absurd h

-- a fixup has the kind of its operand
pub fixup_kind : (kind : Kind) (ps : List Piece) (f : Fixup) → IsFixup kind ps f → f.kind ≡ kind
fixup_kind kind [] f h = absurd h
fixup_kind kind (s ∷ []) f h = h.0.0
fixup_kind kind (s ∷ m ∷ []) f h = absurd h
fixup_kind kind (s ∷ m ∷ p ∷ []) f h = h.0.0
fixup_kind kind (s ∷ m ∷ p ∷ q ∷ ps) f h = absurd h

-- an immediate that waits for a half of a symbol is 0
abbrev pub WaitsForHalf : ℕ → Option Fixup → Type 0
WaitsForHalf imm None = Unit {0}
WaitsForHalf imm (Some f) = (imm ≡ 0) × IsHalf f.kind

half_is : (name : List ℕ) (kind : Kind) → half_named name ≡ Some kind → IsHalf kind
unfolding half_named
half_is name kind h =
    elim (chosen (bytes_eq name (codes "hi16")) _ _ _ h) [
      | inl j ↦ inl (sym (some_same j.1))
      | inr j ↦ elim (chosen (bytes_eq name (codes "lo16")) _ _ _ j.1) [
        | inl k ↦ inr (sym (some_same k.1))
        | inr k ↦ absurd cc
      ]
    ]

no_fixup : (imm : ℕ) (fixup : Option Fixup) → fixup ≡ None → WaitsForHalf imm fixup
no_fixup imm fixup e = subst (WaitsForHalf imm) (sym e) tt

high : (n imm : ℕ) → n < 2 ^ 32 → imm ≡ n / 65536 → imm < 2 ^ 16
high n imm small e = omega arith

low : (n imm : ℕ) → imm ≡ n % 65536 → imm < 2 ^ 16
low n imm e = omega arith

half_formed : (kind : Kind) (ps : List Piece) (v : Value) (imm : ℕ) (fixup : Option Fixup) → IsHalf kind
    → IsValue kind ps v
    → IsHalfOf kind v imm fixup → (imm < 2 ^ 16) × WaitsForHalf imm fixup
half_formed Hi16 ps (Number n) imm fixup is value h =
    (high n imm (signed_small (2 ^ 32) ps n (omega arith) value) h.0, no_fixup imm fixup h.1)
half_formed Lo16 ps (Number n) imm fixup is value h = (low n imm h.0, no_fixup imm fixup h.1)
half_formed Pc26 ps (Number n) imm fixup is value h = absurd h
half_formed Pc16 ps (Number n) imm fixup is value h = absurd h
half_formed Abs32 ps (Number n) imm fixup is value h = absurd h
half_formed kind ps (Symbol f) imm fixup is value h = (
  subst (λ n. n < 2 ^ 16) (sym h.0) (omega arith),
  subst (WaitsForHalf imm) (sym h.1) (h.0, subst IsHalf (sym (fixup_kind kind ps f value)) is),
)

pub immediate_formed : (ps : List Piece) (imm : ℕ) (fixup : Option Fixup) → IsImmediate ps imm fixup
    → (imm < 2 ^ 16) × WaitsForHalf imm fixup
immediate_formed ps imm fixup (operand.short number small) = (small, tt)
immediate_formed ps imm fixup (operand.half inside c name kind v named is opened parts value closed halves) =
    half_formed kind inside v imm fixup (half_is name kind is) value halves

-- words that wait for a symbol are 0
abbrev pub WaitsForWords : Kind → ℤ → Option Fixup → Type 0
WaitsForWords kind words None = Unit {0}
WaitsForWords kind words (Some f) = (words ≡ pos 0) × (f.kind ≡ kind)

back_fits : (width n : ℕ) → 0 < 2 ^ width → n ≤ 2 ^ width → FitsWords width (neg_ℤ (pos n))
back_fits width zero some h = some
back_fits width (suc n) some h = omega (arith, h)

distance_fits : (width : ℕ) (words : ℤ) (m p : Piece) → 0 < 2 ^ width → IsDistance width words m p
    → FitsWords width words
distance_fits width words m p some (n, number, inl h) = subst (FitsWords width) (sym h.2) h.1
distance_fits width words m p some (n, number, inr h) = subst (FitsWords width) (sym h.2) (back_fits width n some h.1)

place_fits : (width : ℕ) (ps : List Piece) (words : ℤ) → 0 < 2 ^ width → IsPlace width ps words → FitsWords width words
place_fits width [] words some h = absurd h
place_fits width (p ∷ []) words some h = subst (FitsWords width) (sym h.1) some
place_fits width (p ∷ m ∷ []) words some h = absurd h
place_fits width (p ∷ m ∷ q ∷ []) words some h = distance_fits width words m q some h.1
place_fits width (p ∷ m ∷ q ∷ r ∷ ps) words some h = absurd h

goal_formed : (kind : Kind) (width : ℕ) (ps : List Piece) (words : ℤ) (fixup : Option Fixup) → 0 < 2 ^ width
    → IsGoal kind width ps words fixup → FitsWords width words × WaitsForWords kind words fixup
goal_formed kind width ps words fixup some (operand.place h) = (place_fits width ps words some h, tt)
goal_formed kind width ps words fixup some (operand.symbol {f = f} h) = (some, (refl, fixup_kind kind ps f h))

-- names of bits and of conditions stand for such numbers
one_of : (limit k n : ℕ) (b : Bool) (rest : Option ℕ) → cond b (Some k) rest ≡ Some n → k < limit
    → (rest ≡ Some n → n < limit)
    → n < limit
one_of limit k n b rest h below more = elim (chosen b (Some k) rest (Some n) h) [
  | inl j ↦ subst (λ x. x < limit) (some_same j.1) below
  | inr j ↦ more j.1
]

none_is : (limit n : ℕ) → None ≡ Some n → n < limit
none_is limit n h = absurd cc

bit_below : (name : List ℕ) (n : ℕ) → bit_named name ≡ Some n → n < 32
unfolding bit_named
bit_below name n h =
    one_of 32 2 n (bytes_eq name (codes "eq")) _ h (omega arith) (λ h.
    one_of 32 3 n (bytes_eq name (codes "ne")) _ h (omega arith) (λ h.
    one_of 32 4 n (bytes_eq name (codes "gt")) _ h (omega arith) (λ h.
    one_of 32 5 n (bytes_eq name (codes "le")) _ h (omega arith) (λ h.
    one_of 32 6 n (bytes_eq name (codes "lt")) _ h (omega arith) (λ h.
    one_of 32 7 n (bytes_eq name (codes "ge")) _ h (omega arith) (λ h.
    one_of 32 8 n (bytes_eq name (codes "hi")) _ h (omega arith) (λ h.
    one_of 32 9 n (bytes_eq name (codes "ls")) _ h (omega arith) (λ h.
    one_of 32 10 n (bytes_eq name (codes "lo")) _ h (omega arith) (λ h.
    one_of 32 11 n (bytes_eq name (codes "hs")) _ h (omega arith) (λ h.
    none_is 32 n h))))))))))

condition_below : (name : List ℕ) (n : ℕ) → condition_named name ≡ Some n → n < 16
unfolding condition_named
condition_below name n h =
    one_of 16 2 n (bytes_eq name (codes "eq0")) _ h (omega arith) (λ h.
    one_of 16 13 n (bytes_eq name (codes "ne0")) _ h (omega arith) (λ h.
    one_of 16 1 n (bytes_eq name (codes "gt0")) _ h (omega arith) (λ h.
    one_of 16 12 n (bytes_eq name (codes "lt0")) _ h (omega arith) (λ h.
    one_of 16 3 n (bytes_eq name (codes "ge0")) _ h (omega arith) (λ h.
    one_of 16 14 n (bytes_eq name (codes "le0")) _ h (omega arith) (λ h.
    none_is 16 n h))))))

bit_small : (n : ℕ) (p : Piece) → IsBit n p → n < 32
bit_small n p (inl h) = h.1
bit_small n p (inr h) = bit_below h.0 n h.2

condition_small : (n : ℕ) (p : Piece) → IsCondition n p → n < 16
condition_small n p (inl h) = h.1
condition_small n p (inr h) = condition_below h.0 n h.2

control_name_small : (float : Bool) (name : List ℕ) (n : ℕ) → IsControlName float name n → n < 64
control_name_small false name n h = omega (arith, h.1)
control_name_small true name n h = omega (arith, h.1)

control_small : (float : Bool) (n : ℕ) (p : Piece) → IsControl float n p → n < 64
control_small float n p h = control_name_small float h.0 n h.2

width_fits : (op : BitOp) (width : ℕ) → width ≤ most_width op → IsWidth op width
width_fits bits.Rot width h = omega (arith, h)
width_fits _ width h = omega (arith, h)

literal_formed : (op : BitOp) (ps : List Piece) (width offset : ℕ) → IsLiteral (most_width op) ps width offset
    → IsWidth op width × (offset < 32)
literal_formed op [] width offset h = absurd h
literal_formed op (o ∷ []) width offset h = absurd h
literal_formed op (o ∷ p ∷ []) width offset h = absurd h
literal_formed op (o ∷ p ∷ c ∷ []) width offset h =
    (width_fits op width (subst (λ n. n ≤ most_width op) (sym h.0) (omega arith)), h.3)
literal_formed op (w ∷ o ∷ p ∷ c ∷ []) width offset h = (width_fits op width h.1, h.4)
literal_formed op (w ∷ o ∷ p ∷ c ∷ q ∷ ps) width offset h = absurd h

-- a fixup that a field waits for, by what the field is
fixed_half : (i : Instr) (imm : ℕ) (fixup : Option Fixup)
    → ((f : Fixup) → (imm ≡ 0) × IsHalf f.kind → IsFixed i (Some f))
    → WaitsForHalf imm fixup → IsFixed i fixup
fixed_half i imm None on h = tt
fixed_half i imm (Some f) on h = on f h

fixed_words : (i : Instr) (kind : Kind) (words : ℤ) (fixup : Option Fixup)
    → ((f : Fixup) → (words ≡ pos 0) × (f.kind ≡ kind) → IsFixed i (Some f)) → WaitsForWords kind words fixup
    → IsFixed i fixup
fixed_words i kind words None on h = tt
fixed_words i kind words (Some f) on h = on f h

-- what operands make
pub operands_formed : (ps : List Piece) (i : Instr) (fixup : Option Fixup) → AreOperands ps i fixup
    → IsValid i × IsFixed i fixup
operands_formed ps i fixup (operand.immediate {rest = rest} {imm = imm} a b h) =
    let k = immediate_formed rest imm fixup h in (k.0, fixed_half i imm fixup (λ f w. w) k.1)
operands_formed ps i fixup (operand.registers a b h) = (tt, tt)
operands_formed ps i fixup (operand.offset {rest = rest} {imm = imm} a b h) =
    let k = immediate_formed rest imm fixup h in (k.0, fixed_half i imm fixup (λ f w. w) k.1)
operands_formed ps i fixup (operand.index a b h) = (tt, tt)
operands_formed ps i fixup (operand.scaled a b h) = (tt, tt)
operands_formed ps i fixup (operand.address a b h) = (tt, tt)
operands_formed ps i fixup (operand.literal {op = op} {rest = rest} {width = width} {offset = offset} a b h) =
    (literal_formed op rest width offset h, tt)
operands_formed ps i fixup (operand.field a b h) = (tt, tt)
operands_formed ps i fixup (operand.find a h) = (tt, tt)
operands_formed ps i fixup (operand.branch {words = words} h) =
    let k = goal_formed Pc26 25 ps words fixup (omega arith) h in (k.0, fixed_words i Pc26 words fixup (λ f w. w) k.1)
operands_formed ps i fixup (operand.branch_bit {bit = bit} {b = b} {rest = rest} {words = words} is comma behind h) =
    let k = goal_formed Pc16 15 rest words fixup (omega arith) h in
    ((bit_small bit b is, k.0), fixed_words i Pc16 words fixup (λ f w. w) k.1)
operands_formed ps i fixup (operand.branch_condition {mask = mask} {m = m} {rest = rest} {words = words} is comma behind h) =
    let k = goal_formed Pc16 15 rest words fixup (omega arith) h in
    ((condition_small mask m is, k.0), fixed_words i Pc16 words fixup (λ f w. w) k.1)
operands_formed ps i fixup (operand.jump h) = (tt, tt)
operands_formed ps i fixup (operand.trap_bit {bit = bit} {b = b} is comma behind number small) =
    ((bit_small bit b is, small), tt)
operands_formed ps i fixup (operand.trap_condition {mask = mask} {m = m} is comma behind number small) =
    ((condition_small mask m is, small), tt)
operands_formed ps i fixup (operand.bound_number behind number small) = (small, tt)
operands_formed ps i fixup (operand.bound_register behind h) = (tt, tt)
operands_formed ps i fixup operand.return = (tt, tt)
operands_formed ps i fixup (operand.control_load {float = float} {cr = cr} {c = c} behind h) =
    (control_small float cr c h, tt)
operands_formed ps i fixup (operand.control_store {float = float} {cr = cr} {c = c} behind h) =
    (control_small float cr c h, tt)
operands_formed ps i fixup (operand.control_exchange {float = float} {cr = cr} {c = c} a behind h) =
    (control_small float cr c h, tt)
