-- The bytes of sections in an image, one section on.
use Rattle.std.proofs.Common.{sum_by, zero, suc, ◌≡◌, ℕ, ◌+◌, ◌-◌, ◌<◌, ◌≤◌, List, [], ◌∷◌, ◌++◌, length, take, drop, get_or, cond, refl, sym, ap, ◌∙◌, arith, inl, inr}
use Rattle.std.proofs.lemmas.Bool.Decides.{leb_tells, nat_tests}
use Rattle.std.proofs.lemmas.List.{drop_more, take-append-drop, take_more}
use Rattle.std.proofs.lemmas.List.Sums.{sum_by-append, sum_by-cons}
use Rattle.std.proofs.lemmas.List.Sorted.{sum_by-IsPermutation}
use Rattle.std.specs.List.Sorted.{IsPermutation}
use Rattle.std.specs.Prelude.{count_by, Option, None, Some}
use Rattle.std.specs.Option.{option_or}
use Rattle.m88_base.proofs.Laws.{byte_among-append, byte_in_above, byte_in_at, byte_in_below, option_or-none}
use Rattle.m88_base.specs.Found.{PutsBytes}
use Rattle.m88_base.specs.Placed.{Placed, byte_among, byte_in}
use Rattle.m88_link.specs.Inside.Carried.{AreAlone, holds}

-- how many bytes one section has at an address
abbrev one : ℕ → Placed → ℕ
one a p = cond (holds a p) 1 0

one_in : (a : ℕ) (p : Placed) → p.at ≤ a → a < p.at + length p.bytes → one a p ≡ 1
one_in a p low high = grind (arith, nat_tests)

none_in : (a : ℕ) (p : Placed) → one a p ≡ 0 → byte_in p a ≡ None
none_in a p h = elim (leb_tells p.at a) [
  | inr low ↦ byte_in_below p a low.1
  | inl from ↦ elim (leb_tells (p.at + length p.bytes) a) [
    | inl above ↦ byte_in_above p a above.1
    | inr within ↦ absurd (omega (arith, h, one_in a p from.1 within.1))
  ]
]

nobody : (ps : List Placed) (a : ℕ) → count_by (holds a) ps ≡ 0 → byte_among ps a ≡ None
nobody [] a h = refl
nobody (p ∷ ps) a h =
    let both = sum_by-cons (one a) p ps in
    ap (λ o. option_or o (byte_among ps a)) (none_in a p (omega (arith, both, h))) ∙ nobody ps a (omega (arith, both, h))

module _ (ps : List Placed) (i : ℕ) (p : Placed) (within : i < length ps) (is : p ≡ get_or ps i p) where
  -- none of the sections before one has a byte where it has one
  pub free_before : AreAlone ps → (a : ℕ) → p.at ≤ a → a < p.at + length p.bytes → byte_among (take i ps) a ≡ None
  free_before alone a low high =
      let split_at_byte : ps ≡ take i ps ++ p ∷ drop (i + 1) ps =
      sym (take-append-drop i ps) ∙ ap (λ l. take i ps ++ l) (drop_more ps i p within ∙ ap (λ x. x ∷ drop (i + 1) ps) (sym is)) in
      nobody (take i ps) a
      (omega (
        arith,
        alone a,
        ap (λ l. count_by (holds a) l) split_at_byte,
        sum_by-append (one a) (take i ps) (p ∷ drop (i + 1) ps),
        sum_by-cons (one a) p (drop (i + 1) ps),
        one_in a p low high,
      ))

  byte_more : (a : ℕ) → byte_among (take (i + 1) ps) a ≡ option_or (byte_among (take i ps) a) (byte_in p a)
  byte_more a =
      ap (λ l. byte_among l a) (take_more ps i p within ∙ ap (λ x. take i ps ++ x ∷ []) (sym is))
      ∙ byte_among-append (take i ps) (p ∷ []) a
      ∙ ap (λ o. option_or (byte_among (take i ps) a) o) (option_or-none (byte_in p a))

  -- a section that is put where those before it are
  pub put_more : (old new : ℕ → Option ℕ) → AreAlone ps → ((a : ℕ) → old a ≡ byte_among (take i ps) a) → PutsBytes old new p.at p.bytes
      → (a : ℕ) → new a ≡ byte_among (take (i + 1) ps) a
  put_more old new alone before puts a = elim (leb_tells p.at a) [
    | inr low ↦
        puts.below a low.1 ∙ before a ∙ sym (option_or-none (byte_among (take i ps) a))
        ∙ ap (λ o. option_or (byte_among (take i ps) a) o) (sym (byte_in_below p a low.1)) ∙ sym (byte_more a)
    | inl from ↦ elim (leb_tells (p.at + length p.bytes) a) [
      | inl above ↦
          puts.above a above.1 ∙ before a ∙ sym (option_or-none (byte_among (take i ps) a))
          ∙ ap (λ o. option_or (byte_among (take i ps) a) o) (sym (byte_in_above p a above.1)) ∙ sym (byte_more a)
      | inr here ↦
          let k : p.at + (a - p.at) ≡ a = omega (arith, from.1) in
          ap new (sym k) ∙ puts.there (a - p.at) (omega (arith, from.1, here.1)) ∙ sym (byte_in_at p a from.1)
          ∙ ap (λ o. option_or o (byte_in p a)) (sym (free_before alone a from.1 here.1)) ∙ sym (byte_more a)
    ]
  ]

-- what is found at an address as a number, 0 where there is nothing, and back
abbrev code_of : Option ℕ → ℕ
code_of None = 0
code_of (Some b) = suc b

abbrev found_of : ℕ → Option ℕ
found_of zero = None
found_of (suc b) = Some b

found_back : (o : Option ℕ) → found_of (code_of o) ≡ o
found_back None = refl
found_back (Some b) = refl

nothing : (ps : List Placed) (a : ℕ) → count_by (holds a) ps ≡ 0 → sum_by (λ p. code_of (byte_in p a)) ps ≡ 0
nothing [] a h = refl
nothing (p ∷ ps) a h =
    let both = sum_by-cons (one a) p ps in
    let here : code_of (byte_in p a) ≡ 0 = ap code_of (none_in a p (omega (arith, both, h))) in
    omega (arith, sum_by-cons (λ (q : Placed). code_of (byte_in q a)) p ps, here, nothing ps a (omega (arith, both, h)))

-- what is found is a sum over the sections, where none has an address of another
found_sum : (ps : List Placed) (a : ℕ) → count_by (holds a) ps < 2 → byte_among ps a ≡ found_of (sum_by (λ p. code_of (byte_in p a)) ps)
found_sum [] a h = refl
found_sum (p ∷ ps) a h = by (one a p) refl (found_sum ps a)
  where
    both : count_by (holds a) (p ∷ ps) ≡ one a p + count_by (holds a) ps
    both = sum_by-cons (one a) p ps

    sums : sum_by (λ (q : Placed). code_of (byte_in q a)) (p ∷ ps) ≡ code_of (byte_in p a) + sum_by (λ (q : Placed). code_of (byte_in q a)) ps
    sums = sum_by-cons (λ (q : Placed). code_of (byte_in q a)) p ps

    by : (n : ℕ) → one a p ≡ n
        → (count_by (holds a) ps < 2 → byte_among ps a ≡ found_of (sum_by (λ q. code_of (byte_in q a)) ps))
        → byte_among (p ∷ ps) a ≡ found_of (sum_by (λ q. code_of (byte_in q a)) (p ∷ ps))
    by zero e rest =
        let here = none_in a p e in
        let sum : sum_by (λ (q : Placed). code_of (byte_in q a)) (p ∷ ps) ≡ sum_by (λ (q : Placed). code_of (byte_in q a)) ps = omega (arith, sums, ap code_of here) in
        ap (λ o. option_or o (byte_among ps a)) here ∙ rest (omega (arith, both, h)) ∙ ap found_of (sym sum)
    by (suc n) e rest =
        let none : count_by (holds a) ps ≡ 0 = omega (arith, both, h, e) in
        let sum : sum_by (λ (q : Placed). code_of (byte_in q a)) (p ∷ ps) ≡ code_of (byte_in p a) = omega (arith, sums, nothing ps a none) in
        ap (λ o. option_or (byte_in p a) o) (nobody ps a none) ∙ option_or-none (byte_in p a) ∙ sym (found_back (byte_in p a)) ∙ ap found_of (sym sum)

-- in another order no address is in two sections either
pub alone_in_order : (xs ys : List Placed) → IsPermutation xs ys → AreAlone xs → AreAlone ys
alone_in_order xs ys same h = λ a. omega (arith, sum_by-IsPermutation (one a) xs ys same, h a)

-- and the same bytes are found
pub found_in_order : (xs ys : List Placed) → IsPermutation xs ys → AreAlone xs → (a : ℕ) → byte_among ys a ≡ byte_among xs a
found_in_order xs ys same h a =
    found_sum ys a (alone_in_order xs ys same h a)
    ∙ ap found_of (sum_by-IsPermutation (λ p. code_of (byte_in p a)) xs ys same)
    ∙ sym (found_sum xs a (h a))
