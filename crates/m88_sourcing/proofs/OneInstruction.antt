-- One instruction stands at an address.
use Rattle.std.proofs.Common.{◌≡◌, ◌∙◌, ℕ, zero, suc, ◌+◌, ◌<◌, ◌≤◌, ◌^◌, List, [], ◌∷◌, Some, ap, arith, drop, inl, inr, length, length-drop, refl, slice_get, subst, sym, take}
use Rattle.std.specs.Prelude.{Err, IfOk, IfSome, IsSome, None, Ok, Option, Result, unwrap_or}
use Rattle.std.specs.Result.{result_ok}
use Rattle.std.proofs.lemmas.Bool.{cases_lt}
use Rattle.std.specs.Int.{from_be_bytes, to_be_bytes, w32}
use Rattle.std.proofs.lemmas.Option.{same_Some}
use Rattle.std.proofs.lemmas.Nat.{from_be_bytes-to_be_bytes_4}
use Rattle.m88_base.specs.Image.{ProgramImage, byte_at}
use Rattle.m88_codec.proofs.Laws.{one_reading}
use Rattle.m88_isa.proofs.Laws.{word_small}
use Rattle.m88_isa.specs.Machine.{four_bytes, word_bytes}
use Rattle.m88_isa.specs.Word.{IsWord}
use Rattle.m88_isa.specs.declared.instr.Instr.{Instr}
use Rattle.m88_sourcing.specs.Code.{HasInstruction, HoldsInstruction}
use Rattle.m88_sourcing.specs.Inside.Walks.{AreRest}

-- one instruction stands at an address
same_bytes : (a b : ℕ) → a < 2 ^ 32 → b < 2 ^ 32 → Some (to_be_bytes w32 a) ≡ Some (to_be_bytes w32 b) → a ≡ b
same_bytes a b first second same =
    sym (from_be_bytes-to_be_bytes_4 a first)
    ∙ ap (λ (o : Option (List ℕ)). from_be_bytes w32 (unwrap_or o [])) same
    ∙ from_be_bytes-to_be_bytes_4 b second

word_below : (i : Instr) (v : ℕ) → IsWord i v → v < 2 ^ 32
word_below i v is = subst (λ (w : ℕ). w < 2 ^ 32) is.1 (word_small i is.0)

pub same_instruction : (image : ProgramImage) (a : ℕ) (i j : Instr) → HoldsInstruction image a i
    → HoldsInstruction image a j → i ≡ j
same_instruction image a i j s t =
    let v : ℕ = s.0.1.0 in
    let w : ℕ = t.0.1.0 in
    let is : IsWord i v = s.0.1.2 in
    let is2 : IsWord j w = t.0.1.2 in
    let same : v ≡ w =
    same_bytes v w (word_below i v is) (word_below j w is2) (sym s.0.1.1 ∙ t.0.1.1) in
    one_reading w i j (subst (λ (u : ℕ). IsWord i u) same is) is2

-- the bytes of a word, where they are known
taken : (f : ℕ → Option ℕ) (at : ℕ) (xs : List ℕ) → 4 ≤ length xs → ((k : ℕ) → k < 4 → f (at + k) ≡ slice_get xs k)
    → four_bytes f at ≡ Some (take 4 xs)
taken f at (a ∷ b ∷ c ∷ d ∷ rest) long there =
    let here : at ≡ at + 0 = omega arith in
    let h0 : f at ≡ Some a = ap f here ∙ there 0 (omega arith) in
    λ i. word_bytes (h0 i) (there 1 (omega arith) i) (there 2 (omega arith) i) (there 3 (omega arith) i)
taken f at [] long there = absurd (omega (arith, long))
taken f at (a ∷ []) long there = absurd (omega (arith, long))
taken f at (a ∷ b ∷ []) long there = absurd (omega (arith, long))
taken f at (a ∷ b ∷ c ∷ []) long there = absurd (omega (arith, long))

-- the word that bytes begin with is the one that stands there
pub record IsTheWord (i : Instr) (bytes : List ℕ) : Type 0 where
  pub word : ℕ
  pub low : word < 2 ^ 32
  pub bytes_are : to_be_bytes w32 word ≡ take 4 bytes
  pub is : IsWord i word

pub word_there : (image : ProgramImage) (at : ℕ) (bytes : List ℕ) (i : Instr) → 4 ≤ length bytes
    → ((k : ℕ) → k < 4 → byte_at image (at + k) ≡ slice_get bytes k) → HoldsInstruction image at i → IsTheWord i bytes
word_there image at bytes i long there holds = record {
  word = holds.0.1.0;
  low = word_below i holds.0.1.0 holds.0.1.2;
  bytes_are = same_Some _ _ (sym holds.0.1.1 ∙ taken (byte_at image) at bytes long there);
  is = holds.0.1.2;
}

-- what stands at an index behind the first n
pub dropped : (n : ℕ) (xs : List ℕ) (k : ℕ) → slice_get (drop n xs) k ≡ slice_get xs (n + k)
dropped zero xs k = let same : k ≡ 0 + k = omega arith in ap (λ (j : ℕ). slice_get xs j) same
dropped (suc n) [] k = refl
dropped (suc n) (x ∷ xs) k =
    let next : suc (n + k) ≡ suc n + k = omega arith in dropped n xs k ∙ ap (λ (j : ℕ). slice_get (x ∷ xs) j) next

-- the four bytes of an instruction are there
four_some : (a b c d : Option ℕ) (xs : List ℕ) → word_bytes a b c d ≡ Some xs
    → IsSome a × IsSome b × IsSome c × IsSome d
four_some (Some a) (Some b) (Some c) (Some d) xs e = (refl, refl, refl, refl)
four_some None b c d xs e = absurd cc
four_some (Some a) None c d xs e = absurd cc
four_some (Some a) (Some b) None d xs e = absurd cc
four_some (Some a) (Some b) (Some c) None xs e = absurd cc

pub some_none : (o : Option ℕ) → IsSome o → o ≡ None → ⊥
some_none (Some b) some e = absurd cc
some_none None some e = absurd cc

pub no_byte_within : (image : ProgramImage) (a k : ℕ) → HasInstruction image a → k < 4 → byte_at image (a + k) ≡ None → ⊥
no_byte_within image a k h low none =
    by (four_some (byte_at image a) (byte_at image (a + 1)) (byte_at image (a + 2)) (byte_at image (a + 3)) _ h.1.0.1.1) k
    low none
  where
    by : IsSome (byte_at image a) × IsSome (byte_at image (a + 1)) × IsSome (byte_at image (a + 2))
        × IsSome (byte_at image (a + 3)) → (j : ℕ) → j < 4 → byte_at image (a + j) ≡ None → ⊥
    by f zero l n = some_none (byte_at image a) f.0 (ap (byte_at image) (let e : a ≡ a + 0 = omega arith in e) ∙ n)
    by f (suc zero) l n = some_none (byte_at image (a + 1)) f.1 n
    by f (suc (suc zero)) l n = some_none (byte_at image (a + 2)) f.2 n
    by f (suc (suc (suc zero))) l n = some_none (byte_at image (a + 3)) f.3 n
    by f (suc (suc (suc (suc j)))) l n = absurd (omega (arith, l))

pub first_byte : (image : ProgramImage) (a : ℕ) → HasInstruction image a → IsSome (byte_at image a)
first_byte image a h =
    (four_some (byte_at image a) (byte_at image (a + 1)) (byte_at image (a + 2)) (byte_at image (a + 3)) _ h.1.0.1.1).0

-- where the bytes from an address on are known they are four
pub four_there : (image : ProgramImage) (at : ℕ) (bytes : List ℕ) (i : Instr) → AreRest image at bytes
    → HoldsInstruction image at i → 4 ≤ length bytes
four_there image at bytes i rest holds = elim (cases_lt (length bytes) 4) [
  | inl low ↦ absurd (no_byte_within image at (length bytes) (i, holds) low rest.end)
  | inr long ↦ long
]

pub the_word : (image : ProgramImage) (at : ℕ) (bytes : List ℕ) (i : Instr) → AreRest image at bytes
    → HoldsInstruction image at i → IsTheWord i bytes
the_word image at bytes i rest holds =
    let long = four_there image at bytes i rest holds in
    word_there image at bytes i long (λ k low. rest.there k (omega (arith, long, low))) holds

pub word_in_rest : (image : ProgramImage) (at : ℕ) (bytes : List ℕ) → AreRest image at bytes → 4 ≤ length bytes
    → four_bytes (byte_at image) at ≡ Some (take 4 bytes)
word_in_rest image at bytes rest long =
    taken (byte_at image) at bytes long (λ k low. rest.there k (omega (arith, long, low)))

-- the bytes behind a word
pub rest_behind : (image : ProgramImage) (at : ℕ) (bytes : List ℕ) → AreRest image at bytes → 4 ≤ length bytes
    → AreRest image (at + 4) (drop 4 bytes)
rest_behind image at bytes rest long =
    let less = length-drop 4 bytes in
    record {
      there = λ k low.
          let place : at + 4 + k ≡ at + (4 + k) = omega arith in
          ap (byte_at image) place ∙ rest.there (4 + k) (omega (arith, low, less, long)) ∙ sym (dropped 4 bytes k);
      end =
          let place : at + 4 + length (drop 4 bytes) ≡ at + length bytes = omega (arith, less, long) in
          ap (byte_at image) place ∙ rest.end;
    }

-- what holds of each instruction of a word holds of the one that the word was decoded to, where there is one
pub decoded : {E : Type 0} (r : Result Instr E) (word : ℕ) (P : Instr → Type 0) → ((i : Instr) → IsWord i word → P i)
    → IfOk r (λ i. IsWord i word) → IfSome (result_ok r) P
decoded (Ok i) word P each found = each i found
decoded (Err e) word P each found = tt
