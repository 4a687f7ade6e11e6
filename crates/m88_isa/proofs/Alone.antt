-- The plan of an instruction looks at no register outside those that the instruction uses.
use Rattle.std.specs.Prelude.{ℕ, Bool, true, false, List, ◌≡◌, ◌<◌, ◌==◌, ◌^◌, bit_or, slice_index, if◌then◌else◌}
use Rattle.std.specs.Int.{bit_at}
use Rattle.std.proofs.Common.{arith, refl, sym, ap}
use Rattle.std.proofs.lemmas.Nat.Bits.{bit_at-lt, bit_at-pow_same, bit_at_or}
use Rattle.m88_base.specs.Reg.{number_of}
use Rattle.m88_isa.specs.Effect.{AgreesOn, IgnoresUnused, meaning_of, plan_for}
use Rattle.m88_isa.specs.Operands.{after_d_of, d_of, s1_of, s2_of, uses_of}
use Rattle.m88_isa.specs.declared.instr.Instr.{Instr}

-- a fact by the two values of a test
pub by_test : {A : Type 0} (test : Bool) → (test ≡ true → A) → (test ≡ false → A) → A
by_test true f g = f refl
by_test false f g = g refl

-- a member of one set is a member of its union with another
pub in_left : (a b k : ℕ) → bit_at a k ≡ 1 → bit_at (bit_or a b) k ≡ 1
in_left a b k h = rw (bit_at_or a b k) (let below : bit_at b k < 2 = bit_at-lt b k in rw h (omega (arith, below)))

pub in_right : (a b k : ℕ) → bit_at b k ≡ 1 → bit_at (bit_or a b) k ≡ 1
in_right a b k h = rw (bit_at_or a b k) (let below : bit_at a k < 2 = bit_at-lt a k in rw h (omega (arith, below)))

-- the set of a register other than r0 has it
pub in_own : (n : ℕ) → (n == 0) ≡ false → bit_at (if n == 0 then 0 else 2 ^ n) n ≡ 1
in_own n other_than_0 = rw other_than_0 (bit_at-pow_same n)

-- two lists that agree on a set give the same value of a register that is r0 or in the set
same_value : (regs other : List ℕ) (set n : ℕ) →
    AgreesOn set regs other →
    ((n == 0) ≡ false → bit_at set n ≡ 1) →
    (if n == 0 then 0 else slice_index other n) ≡ (if n == 0 then 0 else slice_index regs n)
same_value regs other set n agree inside =
    by_test (n == 0) (λ zero. rw zero refl) (λ not_zero. rw not_zero (sym (agree n (inside not_zero))))

-- what an instruction means, and so its plan, is the same at every list that agrees on its registers
pub meaning_alone : (i : Instr) (regs other : List ℕ) (carry mxm : Bool) (pc next : ℕ) →
    AgreesOn (uses_of i) regs other →
    meaning_of i other carry mxm pc next ≡ meaning_of i regs carry mxm pc next
unfolding uses_of
meaning_alone i regs other carry mxm pc next agree =
    let s1 = same_value regs other (uses_of i) (number_of (s1_of i)) agree (λ h. in_left _ _ _ (in_left _ _ _ (in_own _ h))) in
    let s2 = same_value regs other (uses_of i) (number_of (s2_of i)) agree (λ h. in_left _ _ _ (in_right _ _ _ (in_own _ h))) in
    let d = same_value regs other (uses_of i) (number_of (d_of i)) agree (λ h. in_right _ _ _ (in_left _ _ _ (in_own _ h))) in
    let after_d = same_value regs other (uses_of i) (number_of (after_d_of i)) agree (λ h. in_right _ _ _ (in_right _ _ _ (in_own _ h))) in
    rw (s1, s2, d, after_d) refl

pub plan_alone : (i : Instr) (regs : List ℕ) (carry mxm : Bool) (pc next : ℕ) → IgnoresUnused i regs carry mxm pc next
plan_alone i regs carry mxm pc next other agree = ap plan_for (meaning_alone i regs other carry mxm pc next agree)
