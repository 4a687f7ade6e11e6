-- The word of the registers that accesses load, bit by bit.
use Rattle.std.proofs.Common.{◌≡◌, ℕ, ◌^◌, ◌==◌, ◌≢◌, ◌&&◌, ◌||◌, not, inl, inr, subst, Bool, true, false, List, [], ◌∷◌, if◌then◌else◌, bit_or, max, slice_get, Some, refl, ap, sym, ◌∙◌, arith}
use Rattle.std.proofs.lemmas.Nat.Bits.{bit_at-pow_other, bit_at-pow_same, bit_at-zero, bit_at_or, same_from_bits}
use Rattle.std.proofs.lemmas.Bool.{cases_eq}
use Rattle.std.proofs.lemmas.Bool.Decides.{nat_tests}
use Rattle.std.specs.Int.{bit_at}
use Rattle.std.specs.Int.Bits.{or_zero_r}
use Rattle.m88_base.proofs.Laws.{bit_of_set}
use Rattle.m88_base.specs.RegisterSet.{register_bits}
use Rattle.m88_base.specs.Reg.{number_of}
use Rattle.m88_isa.proofs.Laws.{beyond_waits_not, by_test}
use Rattle.m88_dunit.specs.Inside.Stages.{ArePending, loaded_set}
use Rattle.m88_isa.specs.Bus.{loads, waits_for}
use Rattle.m88_isa.specs.Operands.{bit_of}
use Rattle.m88_isa.specs.declared.planned.Access.{Access}

abbrev as_number : Bool → ℕ
as_number b = if b then 1 else 0

greater_of : (a b : Bool) → max (as_number a) (as_number b) ≡ as_number (a || b)
greater_of true true = refl
greater_of true false = refl
greater_of false true = refl
greater_of false false = refl

-- the bit of a register's number, which r0 lacks
no_bit : (n r : ℕ) → (n == 0) ≡ true → 0 ≡ as_number (not (r == 0) && n == r)
no_bit n r z = by_test (r == 0)
    (λ t. rw t refl)
    (λ f. let apart : (n == r) ≡ false = grind (arith, nat_tests) in rw (f, apart) refl)

own_bit : (n : ℕ) → (n == 0) ≡ false → bit_at (2 ^ n) n ≡ as_number (not (n == 0) && n == n)
own_bit n f = let same : (n == n) ≡ true = grind (arith, nat_tests) in rw (f, same) (bit_at-pow_same n)

other_bit : (n r : ℕ) → n ≢ r → bit_at (2 ^ n) r ≡ as_number (not (r == 0) && n == r)
other_bit n r ne = bit_at-pow_other n r (λ e. ne (sym e)) ∙ (
    let apart : (n == r) ≡ false = grind (arith, nat_tests) in
    by_test (r == 0) (λ t. rw t refl) (λ f. rw (f, apart) refl))

number_bit : (n r : ℕ) → bit_at (if n == 0 then 0 else 2 ^ n) r ≡ as_number (not (r == 0) && n == r)
number_bit n r = by_test (n == 0)
    (λ z. rw z (bit_at-zero r ∙ no_bit n r z))
    (λ f. rw f (elim (cases_eq n r) [
      | inl e ↦ subst (λ (m : ℕ). bit_at (2 ^ n) m ≡ as_number (not (m == 0) && n == m)) e (own_bit n f)
      | inr ne ↦ other_bit n r ne
    ]))

-- the bit of one access
bit_of_load : (a : Access) (r : ℕ) → bit_at (if a.write then 0 else bit_of a.reg) r ≡ as_number (loads a r)
bit_of_load a r = by_test a.write
    (λ w. rw w (bit_at-zero r))
    (λ l. rw l (number_bit (number_of a.reg) r))

-- the bits of all of them together
loads_word : List Access → ℕ
loads_word [] = 0
loads_word (a ∷ xs) = bit_or (if a.write then 0 else bit_of a.reg) (loads_word xs)

bit_of_loads : (xs : List Access) (r : ℕ) → bit_at (loads_word xs) r ≡ as_number (waits_for xs r)
unfolding loads_word waits_for
bit_of_loads [] r = bit_at-zero r
bit_of_loads (a ∷ xs) r =
    bit_at_or (if a.write then 0 else bit_of a.reg) (loads_word xs) r
    ∙ ap (λ n. max n (bit_at (loads_word xs) r)) (bit_of_load a r)
    ∙ ap (max (as_number (loads a r))) (bit_of_loads xs r)
    ∙ greater_of (loads a r) (waits_for xs r)

-- the word is that of the set of the registers that wait
loads_as_set : (xs : List Access) → loads_word xs ≡ register_bits (waits_for xs)
loads_as_set xs = same_from_bits (loads_word xs) (register_bits (waits_for xs)) (λ i.
    bit_of_loads xs i ∙ sym (bit_of_set (waits_for xs) (beyond_waits_not xs) i))

-- the word of at most three accesses, from their places
by_place : (xs : List Access) → ArePending xs →
    bit_or (loaded_set (slice_get xs 0)) (bit_or (loaded_set (slice_get xs 1)) (loaded_set (slice_get xs 2))) ≡ loads_word xs
unfolding loads_word
by_place [] h = refl
by_place (a ∷ []) h = refl
by_place (a ∷ b ∷ []) h = refl
by_place (a ∷ b ∷ c ∷ []) h =
    let e : bit_or (loaded_set (Some c)) 0 ≡ loaded_set (Some c) = or_zero_r (loaded_set (Some c)) in
    ap (λ n. bit_or (loaded_set (Some a)) (bit_or (loaded_set (Some b)) n)) (sym e)
by_place (a ∷ b ∷ c ∷ d ∷ xs) h = absurd (omega (arith, h.few))

pub loads_by_place : (xs : List Access) → ArePending xs →
    bit_or (loaded_set (slice_get xs 0)) (bit_or (loaded_set (slice_get xs 1)) (loaded_set (slice_get xs 2)))
    ≡ register_bits (waits_for xs)
loads_by_place xs h = by_place xs h ∙ loads_as_set xs
