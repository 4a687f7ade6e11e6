-- The word of a set of registers, bit by bit.
use Rattle.std.proofs.Common.{◌≡◌, ℕ, zero, suc, ◌+◌, ◌-◌, ◌*◌, ◌%◌, ◌^◌, ◌<◌, ◌≤◌, Bool, true, false, ◌==◌, if◌then◌else◌, refl, arith, ◌∙◌, sym, ap, lit<, inl, inr, subst, add-one}
use Rattle.std.proofs.Math.Path.{fun_ext}
use Rattle.std.proofs.lemmas.Bool.{cases_lt}
use Rattle.std.proofs.lemmas.Bool.Decides.{nat_tests}
use Rattle.std.proofs.lemmas.Nat.{pow_below}
use Rattle.std.proofs.lemmas.Nat.Bits.{bit_at-lt, bit_at_above, bit_at_cat_high, bit_at_cat_low}
use Rattle.std.proofs.Math.Nat.{mod-eq_of_lt, pow-suc, pow-le-pow_right, sub_self}
use Rattle.std.specs.Int.{bit_at}
use Rattle.m88_base.specs.RegisterSet.{bits_below, register_bits, registers_in}

-- the word has no bit from the count on
bits_below-step : (b : Bool) (n s : ℕ) → s < 2 ^ n → s + (if b then 2 ^ n else 0) < 2 ^ suc n
bits_below-step true n s h = omega (arith, pow-suc 2 n)
bits_below-step false n s h = omega (arith, pow-suc 2 n)

pub bits_below-lt : (set : ℕ → Bool) (n : ℕ) → bits_below set n < 2 ^ n
unfolding bits_below
bits_below-lt set zero = lit< tt
bits_below-lt set (suc n) = bits_below-step (set n) n (bits_below set n) (bits_below-lt set n)

-- one more member leaves the lower bits
bit_at-lower : (b : Bool) (n s k : ℕ) → k < n → bit_at (s + (if b then 2 ^ n else 0)) k ≡ bit_at s k
bit_at-lower true n s k h = let e : s + 2 ^ n ≡ 1 * 2 ^ n + s = omega arith in ap (λ m. bit_at m k) e ∙ bit_at_cat_low 1 n s k h
bit_at-lower false n s k h = let e : s + 0 ≡ s = omega arith in ap (λ m. bit_at m k) e

-- and its own bit is set exactly where it is there
bit_at-top : (b : Bool) (n s : ℕ) → s < 2 ^ n → (bit_at (s + (if b then 2 ^ n else 0)) n == 1) ≡ b
bit_at-top true n s h =
    let e : s + 2 ^ n ≡ 1 * 2 ^ n + s = omega arith in
    let z : n ≤ n = omega arith in
    let d : bit_at (s + 2 ^ n) n ≡ bit_at 1 (n - n) = ap (λ m. bit_at m n) e ∙ bit_at_cat_high 1 n s n h z in
    let o : bit_at 1 (n - n) ≡ 1 = ap (bit_at 1) (sub_self n) in
    ap (λ m. m == 1) (d ∙ o)
bit_at-top false n s h =
    let e : s + 0 ≡ s = omega arith in
    ap (λ m. bit_at m n == 1) e ∙ ap (λ m. m == 1) (bit_at_above s n n h (omega arith))

-- a member has its bit
pub bit_of_member : (set : ℕ → Bool) (n k : ℕ) → k < n → (bit_at (bits_below set n) k == 1) ≡ set k
unfolding bits_below
bit_of_member set zero k h = absurd (omega arith)
bit_of_member set (suc n) k h =
    elim (cases_lt k n) [
      | inl l ↦ ap (λ m. m == 1) (bit_at-lower (set n) n (bits_below set n) k l) ∙ bit_of_member set n k l
      | inr g ↦
          let e : n ≡ k = omega arith in
          subst (λ (m : ℕ). (bit_at (bits_below set n + (if set n then 2 ^ n else 0)) m == 1) ≡ set m) e
          (bit_at-top (set n) n (bits_below set n) (bits_below-lt set n))
    ]

-- the word grows by the weight of each member
pub bits_with_member : (set : ℕ → Bool) (n : ℕ) → set n ≡ true → bits_below set (n + 1) ≡ bits_below set n + 2 ^ n
unfolding bits_below
bits_with_member set n e = rw (add-one n, e) refl

pub bits_without_member : (set : ℕ → Bool) (n : ℕ) → set n ≡ false → bits_below set (n + 1) ≡ bits_below set n
unfolding bits_below
bits_without_member set n e = rw (add-one n, e) (omega arith)

-- a weight fits, and the word with it
pub weight_fits : (n : ℕ) → n < 32 → 1 * 2 ^ n % 2 ^ 32 ≡ 2 ^ n
weight_fits n h = let b : 1 * 2 ^ n < 2 ^ 32 = omega (arith, pow_below n 32 h) in mod-eq_of_lt b ∙ omega arith

pub bits_fit : (set : ℕ → Bool) (n : ℕ) → n < 32 → bits_below set n + 2 ^ n < 2 ^ 32
bits_fit set n h = omega (arith, bits_below-lt set n, pow-suc 2 n, pow-le-pow_right {n = 2} (lit< tt) {i = suc n} {j = 32} (omega arith))

-- the word of a set below 32 without r0 names that set
pub bits_name_set : (set : ℕ → Bool) → set 0 ≡ false → ((k : ℕ) → 32 ≤ k → set k ≡ false) → registers_in (register_bits set) ≡ set
bits_name_set set z above = fun_ext (λ k. named k)
  where
    named : (k : ℕ) → registers_in (register_bits set) k ≡ set k
    named zero = sym z
    named (suc k) =
        elim (cases_lt (suc k) 32) [
          | inl l ↦ bit_of_member set 32 (suc k) l
          | inr g ↦ ap (λ m. m == 1) (bit_at_above (bits_below set 32) 32 (suc k) (bits_below-lt set 32) g) ∙ sym (above (suc k) g)
        ]

-- a bit as a number
bit_number : (n k : ℕ) (b : Bool) → (bit_at n k == 1) ≡ b → bit_at n k ≡ (if b then 1 else 0)
bit_number n k true e = grind (arith, nat_tests)
bit_number n k false e = let two : bit_at n k < 2 = bit_at-lt n k in grind (arith, nat_tests)

-- the word of a set has the bits of its members below 32, and no others
pub bit_of_set : (set : ℕ → Bool) → ((k : ℕ) → 32 ≤ k → set k ≡ false) → (k : ℕ) →
    bit_at (register_bits set) k ≡ (if set k then 1 else 0)
bit_of_set set above k =
    elim (cases_lt k 32) [
      | inl l ↦ bit_number (bits_below set 32) k (set k) (bit_of_member set 32 k l)
      | inr g ↦ bit_at_above (bits_below set 32) 32 k (bits_below-lt set 32) g ∙ sym (ap (λ b. if b then 1 else 0) (above k g))
    ]
