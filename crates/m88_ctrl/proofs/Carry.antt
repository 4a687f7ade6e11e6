-- The carry is tested, set and cleared by a mask; MXM is tested, and stays.
use Rattle.std.proofs.Common.{ℕ, zero, suc, Bool, true, false, not, ◌≡◌, ◌<◌, ◌+◌, ◌*◌, ◌^◌, ◌==◌, bit_or, max, refl, ap, arith, ◌∙◌}
use Rattle.std.specs.Prelude.{bit_and}
use Rattle.std.specs.Int.{bit_at}
use lib.Bits.{or_add_and}
use Rattle.std.proofs.lemmas.Nat.{and-not, and_comm}
use Rattle.std.proofs.lemmas.Nat.Bits.{and_pow, bit_at-lt, bit_at_or}
use Rattle.m88_ctrl.specs.ControlRegisters.{exception_bits, with_carry}

-- a bit that is shifted to its place is 0 or not
by_bit : (b : ℕ) → b < 2 → not (b * 268435456 == 0) ≡ (b == 1)
by_bit zero h = refl
by_bit (suc zero) h = refl
by_bit (suc (suc b)) h = absurd (omega (arith, h))

-- the carry is the bit of the mask
pub tested : (n : ℕ) → not (bit_and n 268435456 == 0) ≡ (bit_at n 28 == 1)
tested n = ap (λ (w : ℕ). not (w == 0)) (and_pow n 28) ∙ by_bit (bit_at n 28) (bit_at-lt n 28)

-- the bit is set
pub set : (n : ℕ) → bit_or n 268435456 ≡ with_carry true n
set n =
    let sum = or_add_and n 268435456 in
    let bit : bit_and n 268435456 ≡ bit_at n 28 * 268435456 = and_pow n 28 in
    omega (arith, sum, bit)

-- the bit is cleared
pub cleared : (n : ℕ) → n < 2 ^ 32 → bit_and n 4026531839 ≡ with_carry false n
cleared n small =
    let rest : bit_and 4026531839 n + bit_and 268435456 n ≡ n = and-not 32 268435456 n (omega arith) small in
    let bit : bit_and n 268435456 ≡ bit_at n 28 * 268435456 = and_pow n 28 in
    let front = and_comm n 4026531839 in
    let back = and_comm n 268435456 in
    omega (arith, rest, bit, front, back)

-- and then the carry is as it was wanted
pub shown : (c : Bool) (n : ℕ) → (bit_at (with_carry c n) 28 == 1) ≡ c
shown true n = let bit : bit_at (with_carry true n) 28 ≡ 1 = omega arith in rw bit refl
shown false n = let bit : bit_at (with_carry false n) 28 ≡ 0 = omega arith in rw bit refl

-- MXM is the bit of its mask
mxm_by_bit : (b : ℕ) → b < 2 → not (b * 4 == 0) ≡ (b == 1)
mxm_by_bit zero h = refl
mxm_by_bit (suc zero) h = refl
mxm_by_bit (suc (suc b)) h = absurd (omega (arith, h))

pub mxm_tested : (n : ℕ) → not (bit_and n 4 == 0) ≡ (bit_at n 2 == 1)
mxm_tested n = ap (λ (w : ℕ). not (w == 0)) (and_pow n 2) ∙ mxm_by_bit (bit_at n 2) (bit_at-lt n 2)

-- it stays where the carry is set or cleared
pub mxm_kept : (c : Bool) (n : ℕ) → (bit_at (with_carry c n) 2 == 1) ≡ (bit_at n 2 == 1)
mxm_kept true n = let same : bit_at (with_carry true n) 2 ≡ bit_at n 2 = omega arith in ap (λ (b : ℕ). b == 1) same
mxm_kept false n = let same : bit_at (with_carry false n) 2 ≡ bit_at n 2 = omega arith in ap (λ (b : ℕ). b == 1) same

-- and where an exception is entered
max_zero : (a b : ℕ) → b ≡ 0 → max a b ≡ a
max_zero a b h = omega (arith, h)

pub mxm_entered : (n : ℕ) → (bit_at (bit_or n exception_bits) 2 == 1) ≡ (bit_at n 2 == 1)
mxm_entered n =
    ap (λ (b : ℕ). b == 1) (bit_at_or n exception_bits 2 ∙ max_zero (bit_at n 2) (bit_at exception_bits 2) refl)
