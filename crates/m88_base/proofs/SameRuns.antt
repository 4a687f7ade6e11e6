-- Runs in order with gaps between them are told by what is found in them; and what is found stays bytes below 2 ^ 32.
use Rattle.std.proofs.Common.{◌≡◌, ℕ, ◌+◌, ◌-◌, ◌<◌, ◌≤◌, ◌^◌, List, [], ◌∷◌, length, get_or, refl, sym, ◌∙◌, ap, ap₂, arith, inl, inr}
use Rattle.std.specs.Prelude.{Option, None, Some}
use Rattle.std.proofs.lemmas.Bool.Decides.{leb_tells}
use Rattle.std.proofs.lemmas.List.{ext_get_or}
use Rattle.std.proofs.lemmas.Option.{slice_get-get_or}
use Rattle.m88_base.specs.Found.{PutsBytes, FindsBytes}
use Rattle.m88_base.specs.Placed.{Placed, byte_among, count_among, AreApart}
use Rattle.m88_base.specs.Image.{ProgramImage, IsImage, byte_at, byte_count, most_bytes}
use Rattle.m88_base.proofs.Lookup.{byte_in_from, byte_in_above}
use Rattle.m88_base.proofs.Apart.{none_below}

-- a byte of the first run is found
there : (x : Placed) (xs : List Placed) (k : ℕ) → k < length x.bytes → byte_among (x ∷ xs) (x.at + k) ≡ Some (get_or x.bytes k 0)
there x xs k small = rw (byte_in_from x.at x.bytes k, slice_get-get_or x.bytes k 0 small) refl

-- nothing is found just behind it
behind : (from : ℕ) (x : Placed) (xs : List Placed) → AreApart from (x ∷ xs) → byte_among (x ∷ xs) (x.at + length x.bytes) ≡ None
behind from x xs h =
    rw (byte_in_above x (x.at + length x.bytes) (omega arith))
    (none_below (x.at + length x.bytes + 1) xs (x.at + length x.bytes) h.2 (omega arith))

some_none : {n : ℕ} {o : Option ℕ} → o ≡ Some n → o ≡ None → ⊥
some_none e f = absurd (let g = sym e ∙ f in cc)

-- the first of the others begins no later
no_later : (from : ℕ) (x y : Placed) (xs ys : List Placed) → AreApart from (x ∷ xs) → AreApart from (y ∷ ys)
    → ((a : ℕ) → byte_among (x ∷ xs) a ≡ byte_among (y ∷ ys) a) → y.at ≤ x.at
no_later from x y xs ys h k same = elim (leb_tells y.at x.at) [
  | inl t ↦ t.1
  | inr t ↦
      let zero_on : x.at + 0 ≡ x.at = omega arith in
      let found : byte_among (x ∷ xs) x.at ≡ Some (get_or x.bytes 0 0) = rw zero_on at (there x xs 0 h.1) in
      absurd (some_none (sym (same x.at) ∙ found) (none_below y.at (y ∷ ys) x.at (omega arith, k.1, k.2) t.1))
]

-- and is no longer
no_longer : (from : ℕ) (x y : Placed) (xs ys : List Placed) → AreApart from (x ∷ xs) → x.at ≡ y.at
    → ((a : ℕ) → byte_among (x ∷ xs) a ≡ byte_among (y ∷ ys) a) → length y.bytes ≤ length x.bytes
no_longer from x y xs ys h at same = elim (leb_tells (length y.bytes) (length x.bytes)) [
  | inl t ↦ t.1
  | inr t ↦
      let found : byte_among (y ∷ ys) (x.at + length x.bytes) ≡ Some (get_or y.bytes (length x.bytes) 0) =
      ap (λ (a : ℕ). byte_among (y ∷ ys) (a + length x.bytes)) at ∙ there y ys (length x.bytes) t.1 in
      absurd (some_none (same (x.at + length x.bytes) ∙ found) (behind from x xs h))
]

pub same_runs : (from : ℕ) (xs ys : List Placed) → AreApart from xs → AreApart from ys → ((a : ℕ) → byte_among xs a ≡ byte_among ys a) → xs ≡ ys
same_runs from [] [] h k same = refl
same_runs from [] (y ∷ ys) h k same = absurd (some_none (there y ys 0 k.1) (sym (same (y.at + 0))))
same_runs from (x ∷ xs) [] h k same = absurd (some_none (there x xs 0 h.1) (same (x.at + 0)))
same_runs from (x ∷ xs) (y ∷ ys) h k same =
    let at : x.at ≡ y.at = omega (arith, no_later from x y xs ys h k same, no_later from y x ys xs k h (λ a. sym (same a))) in
    let long : length x.bytes ≡ length y.bytes =
    omega (arith, no_longer from x y xs ys h at same, no_longer from y x ys xs k (sym at) (λ a. sym (same a))) in
    let bytes : x.bytes ≡ y.bytes = ext_get_or 0 x.bytes y.bytes long (λ i p.
    let found : byte_among (y ∷ ys) (x.at + i) ≡ Some (get_or y.bytes i 0) = ap (λ (a : ℕ). byte_among (y ∷ ys) (a + i)) at ∙ there y ys i (omega (arith, long, p)) in
    some_same (sym (there x xs i p) ∙ same (x.at + i) ∙ found)) in
    let next : x.at + length x.bytes + 1 ≡ y.at + length y.bytes + 1 = omega (arith, at, long) in
    let rest : xs ≡ ys = same_runs (x.at + length x.bytes + 1) xs ys h.2 (rw (← next) at k.2) (λ a. beyond a at long) in
    let run : ◌≡◌ {A = Placed} x y = ap₂ (λ (a : ℕ) (bs : List ℕ). let p : Placed = record { at = a; bytes = bs } in p) at bytes in
    ap₂ (λ (p : Placed) (ps : List Placed). let qs : List Placed = p ∷ ps in qs) run rest
  where
    some_same : {a b : ℕ} → ◌≡◌ {A = Option ℕ} (Some a) (Some b) → a ≡ b
    some_same e = cc

    beyond : (a : ℕ) → x.at ≡ y.at → length x.bytes ≡ length y.bytes → byte_among xs a ≡ byte_among ys a
    beyond a at long = elim (leb_tells (x.at + length x.bytes + 1) a) [
      | inr t ↦
          none_below (x.at + length x.bytes + 1) xs a h.2 t.1
          ∙ sym (none_below (y.at + length y.bytes + 1) ys a k.2 (omega (arith, at, long, t.1)))
      | inl t ↦
          rw (byte_in_above x a (omega (arith, t.1)), byte_in_above y a (omega (arith, t.1, at, long))) at (same a)
    ]

-- images with the same start and the same bytes are the same
pub same_images : (i j : ProgramImage) → AreApart 0 i.runs → AreApart 0 j.runs → i.start ≡ j.start → ((a : ℕ) → byte_at i a ≡ byte_at j a) → i ≡ j
unfolding byte_at
same_images i j h k start same =
    ap₂ (λ (rs : List Placed) (s : ℕ). let image : ProgramImage = record { runs = rs; start = s } in image) (same_runs 0 i.runs j.runs h k same) start

-- bytes put among bytes
pub puts_bytes : (old new : ℕ → Option ℕ) (at : ℕ) (bytes : List ℕ) → FindsBytes old → at + length bytes ≤ 2 ^ 32
    → ((k : ℕ) → k < length bytes → get_or bytes k 0 < 256) → PutsBytes old new at bytes → FindsBytes new
puts_bytes old new at bytes h fits small puts a = elim (leb_tells at a) [
  | inr t ↦ rw (puts.below a t.1) (h a)
  | inl t ↦ elim (leb_tells (at + length bytes) a) [
    | inl u ↦ rw (puts.above a u.1) (h a)
    | inr u ↦
        let inside : a - at < length bytes = omega (arith, t.1, u.1) in
        let e : at + (a - at) ≡ a = omega (arith, t.1) in
        rw (rw e at (puts.there (a - at) inside), slice_get-get_or bytes (a - at) 0 inside) (omega (arith, u.1, fits), small (a - at) inside)
  ]
]

-- what runs and a start have to satisfy to be an image
pub image_of : (runs : List Placed) (start : ℕ) → AreApart 0 runs → FindsBytes (byte_among runs) → count_among runs ≤ most_bytes → start < 2 ^ 32
    → IsImage (record { runs = runs; start = start })
unfolding byte_at byte_count
image_of runs start apart bytes few below = record { apart = apart; bytes = bytes; few = few; start = below }
