-- The word of the registers that wait, as the set of their numbers.
use Rattle.std.proofs.Common.{◌≡◌, ℕ, zero, suc, ◌<◌, ◌≤◌, ◌^◌, ◌*◌, ◌/◌, ◌%◌, ◌==◌, ◌≢◌, Bool, true, false, List, length, slice_index, bit_or, bit_and, min, refl, arith, sym, ◌∙◌, ap, inl, inr, if◌then◌else◌}
use Rattle.std.proofs.Math.Path.{fun_ext}
use Rattle.std.proofs.lemmas.Bool.{cases_lt, cases_eq}
use Rattle.std.proofs.lemmas.Bool.Decides.{nat_tests}
use Rattle.std.proofs.lemmas.Grind.{same_number_lists}
use Rattle.std.proofs.lemmas.Nat.{and_le_l, or_of_32, mod_below}
use Rattle.std.proofs.Math.Nat.{lt_of_le_of_lt}
use Rattle.std.proofs.Math.Dec.{lit<}
use Rattle.std.proofs.lemmas.Nat.Bits.{bit_at_and, bit_at-suc, bit_at-zero, bit_at-lt, bit_at_above, bit_at_set_same, bit_at_set_other, bit_at_clear_same, bit_at_clear_other, same_from_bits}
use Rattle.std.specs.Int.{bit_at, bit_not, w32}
use Rattle.m88_base.proofs.Laws.{bit_of_set}
use Rattle.m88_base.specs.RegisterSet.{register_bits, registers_in, with_member}
use Rattle.m88_scoreboard.specs.Registers.{none_waits}

-- the registers that wait by a word
abbrev pub named : ℕ → ℕ → Bool
named word r = bit_at word r == 1

-- the word 0 names none
pub none_named : named 0 ≡ none_waits
none_named = fun_ext (λ r. ap (λ n. n == 1) (bit_at-zero r))

-- a word without bit 0 names the registers of its set
pub named_in : (word : ℕ) → bit_at word 0 ≡ 0 → registers_in word ≡ named word
named_in word even = fun_ext (λ r. each r)
  where
    each : (r : ℕ) → registers_in word r ≡ named word r
    each zero = ap (λ n. n == 1) (sym even)
    each (suc r) = refl

-- a word names none from 32 on
pub none_above : (word r : ℕ) → word < 2 ^ 32 → 32 ≤ r → named word r ≡ false
none_above word r fits above = ap (λ n. n == 1) (bit_at_above word 32 r fits above)

-- a bit as a number
bit_number : (word r : ℕ) → bit_at word r ≡ (if named word r then 1 else 0)
bit_number word r = of (bit_at word r) (bit_at-lt word r)
  where
    of : (n : ℕ) → n < 2 → n ≡ (if n == 1 then 1 else 0)
    of zero h = refl
    of (suc zero) h = refl
    of (suc (suc n)) h = absurd (omega (arith, h))

-- the word is that of the set that it names
pub word_of_named : (word : ℕ) → word < 2 ^ 32 → word ≡ register_bits (named word)
word_of_named word fits =
    same_from_bits word (register_bits (named word)) (λ r.
    bit_number word r ∙ sym (bit_of_set (named word) (λ k above. none_above word k fits above) r))

-- without its lowest bit a word names the registers of its set
pub named_without_lowest : (word : ℕ) → registers_in word ≡ named (word / 2 * 2)
named_without_lowest word = fun_ext (λ r. each r)
  where
    each : (r : ℕ) → registers_in word r ≡ named (word / 2 * 2) r
    each zero = let even : word / 2 * 2 / 2 ^ 0 % 2 ≡ 0 = omega arith in ap (λ n. n == 1) (sym even)
    each (suc r) =
        let half : word / 2 * 2 / 2 ≡ word / 2 = omega arith in
        ap (λ n. n == 1) (bit_at-suc word r ∙ ap (λ n. bit_at n r) (sym half) ∙ sym (bit_at-suc (word / 2 * 2) r))

-- the weight of a register's bit, as the code computes it
abbrev pub weight : ℕ → ℕ
weight k = 1 * 2 ^ k % 2 ^ 32

-- a set with a member put in or left out, apart from r0
pub member_same : (set : ℕ → Bool) (k : ℕ) (there : Bool) → (k == 0) ≡ false → with_member k there set k ≡ there
member_same set k there ne = let same : (k == k) ≡ true = grind (arith, nat_tests) in rw (same, ne) refl

pub member_other : (set : ℕ → Bool) (k r : ℕ) (there : Bool) → r ≢ k → with_member k there set r ≡ set r
member_other set k r there apart = let other : (r == k) ≡ false = grind (arith, nat_tests) in rw other refl

-- a word with the bit of one register more
pub named_with : (word k : ℕ) → k < 32 → (k == 0) ≡ false → named (bit_or word (weight k)) ≡ with_member k true (named word)
named_with word k within ne = fun_ext (λ r. elim (cases_eq r k) [
  | inl same ↦
      ap (named (bit_or word (weight k))) same
      ∙ ap (λ n. n == 1) (bit_at_set_same w32 word k within)
      ∙ sym (member_same (named word) k true ne)
      ∙ ap (with_member k true (named word)) (sym same)
  | inr apart ↦
      ap (λ n. n == 1) (bit_at_set_other w32 word k within r apart) ∙ sym (member_other (named word) k r true apart)
])

-- a word without the bit of one register, of which r0 has none
pub named_without : (word k : ℕ) → k < 32 → word < 2 ^ 32 → bit_at word 0 ≡ 0 →
    named (bit_and word (bit_not w32 (weight k))) ≡ with_member k false (named word)
named_without word k within fits even = fun_ext (λ r. elim (cases_eq r k) [
  | inl same ↦
      ap (named (bit_and word (bit_not w32 (weight k)))) same
      ∙ ap (λ n. n == 1) (bit_at_clear_same w32 word k within)
      ∙ sym (left_out k)
      ∙ ap (with_member k false (named word)) (sym same)
  | inr apart ↦
      elim (cases_lt r 32) [
        | inl below ↦
            ap (λ n. n == 1) (bit_at_clear_other w32 word k within r below apart) ∙ sym (member_other (named word) k r false apart)
        | inr above ↦
            none_above (bit_and word (bit_not w32 (weight k))) r (lt_of_le_of_lt (and_le_l word (bit_not w32 (weight k))) fits) above
            ∙ sym (none_above word r fits above)
            ∙ sym (member_other (named word) k r false apart)
      ]
])
  where
    left_out : (j : ℕ) → with_member j false (named word) j ≡ false
    left_out zero = ap (λ n. n == 1) even
    left_out (suc j) = let ne : (suc j == 0) ≡ false = grind (arith, nat_tests) in member_same (named word) (suc j) false ne

-- where no register waits, the values that are shown are the numbers
pub all_shown : (numbers values : List ℕ) (word : ℕ) → length values ≡ 32 → length numbers ≡ 32
    → ((k : ℕ) → k < 32 → named word k ≡ false → slice_index values k ≡ slice_index numbers k)
    → named word ≡ none_waits
    → values ≡ numbers
all_shown numbers values word long same ready none =
    same_number_lists values numbers (long ∙ sym same) (λ k h. ready k (omega arith) (ap (λ set. set k) none))

-- what holds of the word once a register's bit is set or cleared: it fits, and has no bit 0
pub fits_with : (word k : ℕ) → word < 2 ^ 32 → bit_or word (weight k) < 2 ^ 32
fits_with word k fits = or_of_32 word (weight k) fits (mod_below (1 * 2 ^ k) (2 ^ 32) (lit< tt))

pub even_with : (word k : ℕ) → k < 32 → (k == 0) ≡ false → bit_at word 0 ≡ 0 → bit_at (bit_or word (weight k)) 0 ≡ 0
even_with word k within ne even =
    let apart : 0 ≢ k = grind (arith, nat_tests) in
    bit_at_set_other w32 word k within 0 apart ∙ even

pub fits_without : (word mask : ℕ) → word < 2 ^ 32 → bit_and word mask < 2 ^ 32
fits_without word mask fits = lt_of_le_of_lt (and_le_l word mask) fits

pub even_without : (word mask : ℕ) → bit_at word 0 ≡ 0 → bit_at (bit_and word mask) 0 ≡ 0
even_without word mask even = bit_at_and word mask 0 ∙ ap (λ n. min n (bit_at mask 0)) even ∙ least
  where
    least : min 0 (bit_at mask 0) ≡ 0
    least = omega arith
