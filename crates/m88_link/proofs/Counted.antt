-- Parts of an image of which none has an address of another have as many bytes as there are addresses with a byte.
use Rattle.std.proofs.Common.{◌≡◌, ℕ, zero, suc, ◌+◌, ◌-◌, ◌<◌, ◌≤◌, inl, inr, min, cond, List, [], ◌∷◌, Option, None, Some, length, refl, sym, ap, ◌∙◌, arith}
use Rattle.std.specs.Prelude.{count_by, sum_by}
use Rattle.std.specs.Option.{option_or}
use Rattle.std.proofs.lemmas.Bool.Decides.{leb_tells, nat_tests}
use Rattle.std.proofs.lemmas.List.Sums.{sum_by-cons}
use Rattle.std.proofs.lemmas.Option.{slice_get-get_or}
use Rattle.m88_base.proofs.Laws.{byte_in_above, byte_in_at, byte_in_below}
use Rattle.m88_base.specs.Placed.{AreApart, Placed, byte_among, byte_in, count_among}
use Rattle.m88_link.specs.Inside.Carried.{AreAlone, holds}

-- 1 where there is a byte
abbrev score : Option ℕ → ℕ
score None = 0
score (Some b) = 1

-- how many of the first n addresses have a byte
unfoldable tally : ℕ → (ℕ → ℕ) → ℕ
tally zero f = 0
tally (suc n) f = tally n f + f n

tally_both : (n : ℕ) (f g h : ℕ → ℕ) → ((a : ℕ) → h a ≡ f a + g a) → tally n h ≡ tally n f + tally n g
unfolding tally
tally_both zero f g h e = refl
tally_both (suc n) f g h e = omega (arith, tally_both n f g h e, e n)

tally_same : (n : ℕ) (f g : ℕ → ℕ) → ((a : ℕ) → f a ≡ g a) → tally n f ≡ tally n g
unfolding tally
tally_same zero f g e = refl
tally_same (suc n) f g e = omega (arith, tally_same n f g e, e n)

tally_none : (n : ℕ) → tally n (λ a. 0) ≡ 0
unfolding tally
tally_none zero = refl
tally_none (suc n) = omega (arith, tally_none n)

-- how many bytes a part has at an address
abbrev one : Placed → ℕ → ℕ
one p a = cond (holds a p) 1 0

one_before : (p : Placed) (a : ℕ) → a < p.at → one p a ≡ 0
one_before p a h = grind (arith, nat_tests)

one_behind : (p : Placed) (a : ℕ) → p.at + length p.bytes ≤ a → one p a ≡ 0
one_behind p a h = grind (arith, nat_tests)

one_within : (p : Placed) (a : ℕ) → p.at ≤ a → a < p.at + length p.bytes → one p a ≡ 1
one_within p a low high = grind (arith, nat_tests)

-- the bytes of a part among the first n addresses
tally_part : (n : ℕ) (p : Placed) → tally n (one p) ≡ min (n - p.at) (length p.bytes)
unfolding tally
tally_part zero p = omega arith
tally_part (suc n) p = elim (leb_tells p.at n) [
  | inr low ↦ omega (arith, tally_part n p, one_before p n low.1, low.1)
  | inl from ↦ elim (leb_tells (p.at + length p.bytes) n) [
    | inl behind ↦ omega (arith, tally_part n p, one_behind p n behind.1, behind.1)
    | inr within ↦ omega (arith, tally_part n p, one_within p n from.1 within.1, from.1, within.1)
  ]
]

-- where parts end, all together
abbrev ends : List Placed → ℕ
ends ps = sum_by (λ (p : Placed). p.at + length p.bytes) ps

tally_parts : (n : ℕ) (ps : List Placed) → ends ps ≤ n → tally n (λ a. count_by (holds a) ps) ≡ count_among ps
tally_parts n [] h = tally_none n
tally_parts n (p ∷ ps) h =
    let all = sum_by-cons (λ (q : Placed). q.at + length q.bytes) p ps in
    let bytes = sum_by-cons (λ (q : Placed). length q.bytes) p ps in
    let both =
    tally_both n (one p) (λ a. count_by (holds a) ps) (λ a. count_by (holds a) (p ∷ ps))
    (λ a. sum_by-cons (λ (q : Placed). one q a) p ps) in
    omega (arith, both, bytes, all, h, tally_part n p, tally_parts n ps (omega (arith, all, h)))

-- an address where a part has a byte
score_part : (p : Placed) (a : ℕ) → score (byte_in p a) ≡ one p a
score_part p a = elim (leb_tells p.at a) [
  | inr low ↦ ap score (byte_in_below p a low.1) ∙ sym (one_before p a low.1)
  | inl from ↦ elim (leb_tells (p.at + length p.bytes) a) [
    | inl behind ↦ ap score (byte_in_above p a behind.1) ∙ sym (one_behind p a behind.1)
    | inr within ↦
        ap score (byte_in_at p a from.1 ∙ slice_get-get_or p.bytes (a - p.at) 0 (omega (arith, from.1, within.1)))
        ∙ sym (one_within p a from.1 within.1)
  ]
]

-- where no address is in two parts, an address is in one exactly where a byte is found
score_parts : (ps : List Placed) (a : ℕ) → count_by (holds a) ps < 2 → score (byte_among ps a) ≡ count_by (holds a) ps
score_parts [] a h = refl
score_parts (p ∷ ps) a h = by (byte_in p a) (score_part p a) (score_parts ps a (omega (arith, more, h)))
  where
    more : count_by (holds a) (p ∷ ps) ≡ one p a + count_by (holds a) ps
    more = sum_by-cons (λ (q : Placed). one q a) p ps

    by : (o : Option ℕ) → score o ≡ one p a → score (byte_among ps a) ≡ count_by (holds a) ps
        → score (option_or o (byte_among ps a)) ≡ count_by (holds a) (p ∷ ps)
    by None e rest = omega (arith, more, e, rest)
    by (Some b) e rest = omega (arith, more, e, h)

-- parts with the same bytes at the same addresses
pub same_count : (ps qs : List Placed) → AreAlone ps → AreAlone qs → ((a : ℕ) → byte_among ps a ≡ byte_among qs a)
    → count_among ps ≡ count_among qs
same_count ps qs alone apart same =
    let n = ends ps + ends qs in
    sym (tally_parts n ps (omega arith))
    ∙ tally_same n (λ a. count_by (holds a) ps) (λ a. count_by (holds a) qs)
    (λ a. sym (score_parts ps a (alone a)) ∙ ap score (same a) ∙ score_parts qs a (apart a))
    ∙ tally_parts n qs (omega arith)

-- no address is in two parts of an image
none_before : (from : ℕ) (ps : List Placed) (a : ℕ) → AreApart from ps → a < from → count_by (holds a) ps ≡ 0
none_before from [] a apart low = refl
none_before from (p ∷ ps) a apart low =
    let more = sum_by-cons (λ (q : Placed). one q a) p ps in
    let rest = none_before (p.at + length p.bytes + 1) ps a apart.2 (omega (arith, apart.0, low)) in
    omega (arith, more, one_before p a (omega (arith, apart.0, low)), rest)

pub alone_apart : (from : ℕ) (ps : List Placed) → AreApart from ps → AreAlone ps
alone_apart from [] apart a = omega arith
alone_apart from (p ∷ ps) apart a =
    let more = sum_by-cons (λ (q : Placed). one q a) p ps in
    elim (leb_tells (p.at + length p.bytes) a) [
      | inl behind ↦ omega (arith, more, one_behind p a behind.1, alone_apart (p.at + length p.bytes + 1) ps apart.2 a)
      | inr within ↦
          elim (leb_tells p.at a) [
            | inl from ↦
                let rest = none_before (p.at + length p.bytes + 1) ps a apart.2 (omega (arith, within.1)) in
                omega (arith, more, one_within p a from.1 within.1, rest)
            | inr low ↦
                let rest = none_before (p.at + length p.bytes + 1) ps a apart.2 (omega (arith, within.1)) in
                omega (arith, more, one_before p a low.1, rest)
          ]
    ]
