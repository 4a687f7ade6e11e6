-- Words that are named one after the other in an image.
use Rattle.std.specs.Prelude.{ℕ, zero, suc, ◌≡◌, ◌≢◌, ◌+◌, ◌%◌, ◌^◌, ◌<◌, ◌≤◌, ◌==◌, ◌||◌, ◌⊎◌, Bool, true, false, List, [], ◌∷◌, Option, Some, None, IsSome, is_some, length, slice_get, unwrap_or, if◌then◌else◌}
use Rattle.std.specs.Int.{from_be_bytes, to_be_bytes, w32}
use Rattle.std.proofs.Common.{arith, refl, sym, ap, inl, inr, ◌∙◌, subst}
use Rattle.std.proofs.Math.Path.{fun_ext}
use Rattle.std.proofs.lemmas.Bool.{cases_lt, eqb-false, eqb-true}
use Rattle.std.proofs.lemmas.Nat.{from_be_bytes-to_be_bytes_4}
use Rattle.m88_base.specs.Found.{IsFree, IsLeastTaken, PutsBytes}
use Rattle.m88_base.specs.Image.{ProgramImage, byte_at}
use Rattle.m88_isa.proofs.Laws.{by_test}
use Rattle.m88_isa.specs.Address.{word_address}
use Rattle.m88_isa.specs.Bus.{in_words, with_word}
use Rattle.m88_isa.specs.Lanes.{number_at}
use Rattle.m88_mem.specs.DataBus.{image_bytes}
use Rattle.m88_serving.specs.Inside.Naming.{StoodBefore, NamesOneMore}

-- four bytes that stand in a row, as a number
four_at : (memory : ℕ → ℕ) (at b0 b1 b2 b3 : ℕ) → memory (at + 0) ≡ b0 → memory (at + 1) ≡ b1 → memory (at + 2) ≡ b2 → memory (at + 3) ≡ b3
    → number_at memory at 4 ≡ from_be_bytes w32 (b0 ∷ b1 ∷ b2 ∷ b3 ∷ [])
four_at memory at b0 b1 b2 b3 e0 e1 e2 e3 = rw (e0, e1, e2, e3) (omega arith)

-- the same bytes make the same number
pub same_number : (m n : ℕ → ℕ) (at : ℕ) → ((k : ℕ) → k < 4 → m (at + k) ≡ n (at + k)) → number_at m at 4 ≡ number_at n at 4
same_number m n at same = rw (same 0 (omega arith), same 1 (omega arith), same 2 (omega arith), same 3 (omega arith)) refl

-- the four bytes of a word
by_bytes : (new : ℕ → Option ℕ) (at value : ℕ) (bytes : List ℕ) → length bytes ≡ 4 → ((k : ℕ) → k < 4 → new (at + k) ≡ slice_get bytes k)
    → ((b0 b1 b2 b3 : ℕ) → bytes ≡ b0 ∷ b1 ∷ b2 ∷ b3 ∷ [] → new (at + 0) ≡ Some b0 → new (at + 1) ≡ Some b1 → new (at + 2) ≡ Some b2
    → new (at + 3) ≡ Some b3 → number_at (λ a. unwrap_or (new a) 0) at 4 ≡ value)
    → number_at (λ a. unwrap_or (new a) 0) at 4 ≡ value
by_bytes new at value (b0 ∷ b1 ∷ b2 ∷ b3 ∷ []) four there made =
    made b0 b1 b2 b3 refl (there 0 (omega arith)) (there 1 (omega arith)) (there 2 (omega arith)) (there 3 (omega arith))
by_bytes new at value _ four there made = absurd (omega (arith, four))

-- a number of four bytes that are found where those of a word were put
word_there : (found : ℕ → Option ℕ) (at value : ℕ) (bytes : List ℕ) → value < 2 ^ 32 → bytes ≡ to_be_bytes w32 value → length bytes ≡ 4
    → ((k : ℕ) → k < 4 → found (at + k) ≡ slice_get bytes k) → number_at (λ a. unwrap_or (found a) 0) at 4 ≡ value
word_there found at value bytes small is four there =
    by_bytes found at value bytes four there (λ b0 b1 b2 b3 e e0 e1 e2 e3.
    four_at (λ a. unwrap_or (found a) 0) at b0 b1 b2 b3
    (ap (λ o. unwrap_or o 0) e0) (ap (λ o. unwrap_or o 0) e1) (ap (λ o. unwrap_or o 0) e2) (ap (λ o. unwrap_or o 0) e3)
    ∙ ap (from_be_bytes w32) (sym e ∙ is) ∙ from_be_bytes-to_be_bytes_4 value small)

-- a place within four bytes has one of them
some_of_four : (bytes : List ℕ) (k : ℕ) → length bytes ≡ 4 → k < 4 → is_some (slice_get bytes k) ≡ true
some_of_four (b0 ∷ b1 ∷ b2 ∷ b3 ∷ []) zero four within = refl
some_of_four (b0 ∷ b1 ∷ b2 ∷ b3 ∷ []) (suc zero) four within = refl
some_of_four (b0 ∷ b1 ∷ b2 ∷ b3 ∷ []) (suc (suc zero)) four within = refl
some_of_four (b0 ∷ b1 ∷ b2 ∷ b3 ∷ []) (suc (suc (suc zero))) four within = refl
some_of_four (b0 ∷ b1 ∷ b2 ∷ b3 ∷ []) (suc (suc (suc (suc k)))) four within = absurd (omega (arith, within))
some_of_four [] k four within = absurd (omega (arith, four))
some_of_four (b0 ∷ []) k four within = absurd (omega (arith, four))
some_of_four (b0 ∷ b1 ∷ []) k four within = absurd (omega (arith, four))
some_of_four (b0 ∷ b1 ∷ b2 ∷ []) k four within = absurd (omega (arith, four))
some_of_four (b0 ∷ b1 ∷ b2 ∷ b3 ∷ b4 ∷ bs) k four within = absurd (omega (arith, four))

or_true : (b : Bool) → (b || true) ≡ true
or_true true = refl
or_true false = refl

or_false : (b : Bool) → (b || false) ≡ b
or_false true = refl
or_false false = refl

-- an address in the word at another
in_word : (a at : ℕ) → (word_address a == at) ≡ true → word_address a ≡ at
in_word a at same = eqb-true (word_address a) at same

-- an address in no word at another is below it or above it
out_of_word : (a at : ℕ) → at % 4 ≡ 0 → (word_address a == at) ≡ false → (word_address a + 4 ≤ at) ⊎ (at + 4 ≤ word_address a)
out_of_word a at aligned other =
    let apart : word_address a ≢ at = eqb-false (word_address a) at other in
    elim (cases_lt (word_address a) at) [
      | inl before ↦ inl (omega (arith, aligned, before))
      | inr behind ↦ inr (omega (arith, aligned, apart, behind))
    ]

-- what is found outside of a word that was put
kept_outside : (old new : ℕ → Option ℕ) (at b : ℕ) (bytes : List ℕ) → length bytes ≡ 4 → PutsBytes old new at bytes → (b < at) ⊎ (at + 4 ≤ b)
    → new b ≡ old b
kept_outside old new at b bytes four puts (inl before) = puts.below b before
kept_outside old new at b bytes four puts (inr behind) = puts.above b (omega (arith, four, behind))

-- so is each byte of another word
kept_elsewhere : (old new : ℕ → Option ℕ) (at w k : ℕ) (bytes : List ℕ) → length bytes ≡ 4 → PutsBytes old new at bytes
    → (w + 4 ≤ at) ⊎ (at + 4 ≤ w) → k < 4 → new (w + k) ≡ old (w + k)
kept_elsewhere old new at w k bytes four puts (inl before) within = kept_outside old new at (w + k) bytes four puts (inl (omega (arith, before, within)))
kept_elsewhere old new at w k bytes four puts (inr behind) within = kept_outside old new at (w + k) bytes four puts (inr (omega (arith, behind)))

-- an address in its word
its_word : (a : ℕ) → word_address a + a % 4 ≡ a
its_word a = omega arith

-- a word's bytes put into an image put the word there
pub word_put : (old new : ProgramImage) (at value : ℕ) (bytes : List ℕ) → at % 4 ≡ 0 → value < 2 ^ 32 → bytes ≡ to_be_bytes w32 value
    → length bytes ≡ 4 → PutsBytes (byte_at old) (byte_at new) at bytes → IsFree (byte_at old) at (length bytes) → NamesOneMore old new at value
unfolding with_word in_words image_bytes
word_put old new at value bytes aligned small is four puts free = record {
  free = free at (omega arith, omega (arith, four));
  bus = fun_ext (λ a. by_test (word_address a == at) (here a) (elsewhere a));
  taken = λ a. by_test (word_address a == at) (taken_here a) (taken_elsewhere a);
}
  where
    here : (a : ℕ) → (word_address a == at) ≡ true
        → number_at (image_bytes new) (word_address a) 4 ≡ (if word_address a == at then value else number_at (image_bytes old) (word_address a) 4)
    here a same =
        rw same (subst (λ (w : ℕ). number_at (λ b. unwrap_or (byte_at new b) 0) w 4 ≡ value) (sym (in_word a at same))
        (word_there (byte_at new) at value bytes small is four (λ k within. puts.there k (omega (arith, within, four)))))

    elsewhere : (a : ℕ) → (word_address a == at) ≡ false
        → number_at (image_bytes new) (word_address a) 4 ≡ (if word_address a == at then value else number_at (image_bytes old) (word_address a) 4)
    elsewhere a other =
        rw other (same_number (image_bytes new) (image_bytes old) (word_address a) (λ k within.
        ap (λ o. unwrap_or o 0) (kept_elsewhere (byte_at old) (byte_at new) at (word_address a) k bytes four puts (out_of_word a at aligned other) within)))

    taken_here : (a : ℕ) → (word_address a == at) ≡ true → is_some (byte_at new a) ≡ (is_some (byte_at old a) || word_address a == at)
    taken_here a same =
        let place : at + a % 4 ≡ a = ap (λ w. w + a % 4) (sym (in_word a at same)) ∙ its_word a in
        let there : byte_at new (at + a % 4) ≡ slice_get bytes (a % 4) = puts.there (a % 4) (omega (arith, four)) in
        let found : is_some (byte_at new a) ≡ true =
        ap (λ b. is_some (byte_at new b)) (sym place) ∙ ap is_some there ∙ some_of_four bytes (a % 4) four (omega arith) in
        found ∙ sym (or_true (is_some (byte_at old a))) ∙ ap (λ t. is_some (byte_at old a) || t) (sym same)

    taken_elsewhere : (a : ℕ) → (word_address a == at) ≡ false → is_some (byte_at new a) ≡ (is_some (byte_at old a) || word_address a == at)
    taken_elsewhere a other =
        let kept : byte_at new (word_address a + a % 4) ≡ byte_at old (word_address a + a % 4) =
        kept_elsewhere (byte_at old) (byte_at new) at (word_address a) (a % 4) bytes four puts (out_of_word a at aligned other) (omega arith) in
        let same : byte_at new a ≡ byte_at old a = subst (λ (b : ℕ). byte_at new b ≡ byte_at old b) (its_word a) kept in
        ap is_some same ∙ sym (or_false (is_some (byte_at old a))) ∙ ap (λ t. is_some (byte_at old a) || t) (sym other)

-- the least byte that stands where those of a word are to be put is one of the word's
pub word_there_before : (old : ProgramImage) (at a : ℕ) → at % 4 ≡ 0 → IsLeastTaken (byte_at old) at 4 a → StoodBefore old at
word_there_before old at a aligned taken = record {
  a = a;
  inside = let below = taken.0.0 in let above = taken.0.1 in omega (arith, aligned, below, above);
  found = is_found (byte_at old a) taken.1;
}
  where
    is_found : (o : Option ℕ) → IsSome o → is_some o ≡ true
    is_found (Some b) some = refl
    is_found None some = cc
