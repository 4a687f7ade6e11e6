-- Addresses that are free or taken, and the bytes that are found once some are put there.
use Rattle.std.proofs.Common.{◌≡◌, ℕ, zero, suc, ◌+◌, ◌-◌, ◌<◌, ◌≤◌, List, length, sym, refl, ap, ◌∙◌, subst, arith, inl, inr}
use Rattle.std.specs.Prelude.{Option, Some, None, IsSome, slice_get}
use Rattle.std.specs.Option.{option_or}
use Rattle.std.proofs.lemmas.Bool.{cases_lt}
use mathlib.Core.Path.{fun_ext}
use Rattle.m88_base.specs.Found.{IsFree, IsLeastTaken, PutsBytes}
use Rattle.m88_base.specs.Placed.{byte_in}
use Rattle.m88_base.proofs.Laws.{byte_in_above, byte_in_below, byte_in_from, option_or-none}
use Rattle.m88_srec.specs.Placing.{first_taken, first_taken_at}

-- the addresses behind the first of some free ones
rest_free : (found : ℕ → Option ℕ) (at n : ℕ) → IsFree found at (suc n) → IsFree found (at + 1) n
rest_free found at n free a within =
    let low : at + 1 ≤ a = within.0 in
    let high : a < at + 1 + n = within.1 in
    free a (omega arith, omega arith)

pub none_taken : (found : ℕ → Option ℕ) (at n : ℕ) → IsFree found at n → first_taken found at n ≡ None
unfolding first_taken
none_taken found at zero free = refl
none_taken found at (suc n) free =
    let here : found at ≡ None = free at (omega arith, omega arith) in
    ap (λ o. first_taken_at o at (first_taken found (at + 1) n)) here ∙ none_taken found (at + 1) n (rest_free found at n free)

-- what is behind a first look
behind_first : (o : Option ℕ) (at : ℕ) (later : Option ℕ) → first_taken_at o at later ≡ None → (o ≡ None) × (later ≡ None)
behind_first (Some b) at later e = absurd cc
behind_first None at later e = (refl, e)

pub all_free : (found : ℕ → Option ℕ) (at n : ℕ) → first_taken found at n ≡ None → IsFree found at n
unfolding first_taken
all_free found at zero e a within =
    let low : at ≤ a = within.0 in
    let high : a < at + 0 = within.1 in
    absurd (omega arith)
all_free found at (suc n) e a within =
    let low : at ≤ a = within.0 in
    let high : a < at + suc n = within.1 in
    let both = behind_first (found at) at (first_taken found (at + 1) n) e in
    elim (cases_lt at a) [
      | inl above ↦ all_free found (at + 1) n both.1 a (omega (arith, above), omega (arith, above))
      | inr below ↦ let here : at ≡ a = omega (arith, below) in subst (λ (k : ℕ). found k ≡ None) here both.0
    ]

none_is_not_some : {o : Option ℕ} → o ≡ None → IsSome o → ⊥
none_is_not_some {o = None} e h = absurd cc
none_is_not_some {o = Some x} e h = absurd cc

-- the least taken address is found first
some_first : (found : ℕ → Option ℕ) (at n a : ℕ) (o : Option ℕ) → found at ≡ o → IsLeastTaken found at (suc n) a
    → (IsLeastTaken found (at + 1) n a → first_taken found (at + 1) n ≡ Some a)
    → first_taken_at o at (first_taken found (at + 1) n) ≡ Some a
some_first found at n a (Some b) e least ih =
    let low : at ≤ a = least.0.0 in
    elim (cases_lt at a) [
      | inl above ↦ absurd (none_is_not_some (least.2 at (omega arith) above) (subst IsSome (sym e) refl))
      | inr below ↦ let here : at ≡ a = omega (arith, below) in ap Some here
    ]
some_first found at n a None e least ih =
    let low : at ≤ a = least.0.0 in
    let high : a < at + suc n = least.0.1 in
    elim (cases_lt at a) [
      | inl above ↦ ih ((omega (arith, above), omega (arith, above)), least.1, λ b from to. least.2 b (omega arith) to)
      | inr below ↦
          let here : at ≡ a = omega (arith, below) in
          absurd (none_is_not_some (subst (λ (k : ℕ). found k ≡ None) here e) least.1)
    ]

pub least_taken : (found : ℕ → Option ℕ) (at n a : ℕ) → IsLeastTaken found at n a → first_taken found at n ≡ Some a
unfolding first_taken
least_taken found at zero a least =
    let low : at ≤ a = least.0.0 in
    let high : a < at + 0 = least.0.1 in
    absurd (omega arith)
least_taken found at (suc n) a least = some_first found at n a (found at) refl least (least_taken found (at + 1) n a)

-- what is found at an address once bytes are put where it was free
there : (old new : ℕ → Option ℕ) (at : ℕ) (bytes : List ℕ) (a : ℕ) → PutsBytes old new at bytes → IsFree old at (length bytes)
    → at ≤ a → a < at + length bytes → new a ≡ option_or (old a) (byte_in (record { at = at; bytes = bytes }) a)
there old new at bytes a puts free low high =
    let k : ℕ = a - at in
    let a_is : at + k ≡ a = omega arith in
    let within : k < length bytes = omega arith in
    let new_is : new a ≡ slice_get bytes k = subst (λ (b : ℕ). new b ≡ slice_get bytes k) a_is (puts.there k within) in
    let in_is : byte_in (record { at = at; bytes = bytes }) a ≡ slice_get bytes k =
    subst (λ (b : ℕ). byte_in (record { at = at; bytes = bytes }) b ≡ slice_get bytes k) a_is (byte_in_from at bytes k) in
    new_is ∙ sym in_is ∙ sym (ap (λ o. option_or o (byte_in (record { at = at; bytes = bytes }) a)) (free a (low, high)))

put_at : (old new : ℕ → Option ℕ) (at : ℕ) (bytes : List ℕ) (a : ℕ) → PutsBytes old new at bytes → IsFree old at (length bytes)
    → new a ≡ option_or (old a) (byte_in (record { at = at; bytes = bytes }) a)
put_at old new at bytes a puts free =
    elim (cases_lt a at) [
      | inl low ↦
          puts.below a low ∙ sym (ap (option_or (old a)) (byte_in_below (record { at = at; bytes = bytes }) a low) ∙ option_or-none (old a))
      | inr from ↦ elim (cases_lt a (at + length bytes)) [
        | inl within ↦ there old new at bytes a puts free from within
        | inr past ↦
            puts.above a past
            ∙ sym (ap (option_or (old a)) (byte_in_above (record { at = at; bytes = bytes }) a past) ∙ option_or-none (old a))
      ]
    ]

pub puts_data : (old new : ℕ → Option ℕ) (at : ℕ) (bytes : List ℕ) → PutsBytes old new at bytes → IsFree old at (length bytes)
    → new ≡ (λ a. option_or (old a) (byte_in (record { at = at; bytes = bytes }) a))
puts_data old new at bytes puts free = fun_ext (λ a. put_at old new at bytes a puts free)

-- what the placing of data rests on
pub ruleset placing = (least_taken, none_taken, puts_data)
