-- A layout is linkable or has one refusal, never both.
use Rattle.std.proofs.Common.{◌≡◌, ℕ, zero, suc, ◌+◌, ◌<◌, ◌≤◌, Bool, true, false, cond, None, Some, Option, List, [], ◌∷◌, inl, inr, refl, ap, sym, subst, ◌∙◌, arith}
use Rattle.std.specs.Prelude.{◌⊎◌, Err, IfErr, Ok, OnOk, Result, filter, slice_get, sum_by}
use Rattle.std.specs.Result.{IsErrAnd}
use Rattle.std.proofs.lemmas.Bool.{cases_lt}
use Rattle.std.proofs.lemmas.Bool.Decides.{nat_tests}
use Rattle.std.proofs.lemmas.List.Sums.{length-filter, sum_by-cons}
use Rattle.std.proofs.lemmas.Option.{slice_get-get_or}
use Rattle.m88_base.specs.OneVerdict.{HasOneFaultUnless}
use Rattle.m88_link.specs.Faults.{memory_fault}
use Rattle.m88_link.specs.Layout.{Extent, Layout}
use Rattle.m88_link.specs.Refusal.{AreDisjoint, IsLinkable, IsOverlap, IsRefused, covers, hits, is_too_large, symbol_fault, too_large}
use Rattle.m88_link.specs.declared.fault.LinkFault.{LinkFault}
use Rattle.m88_link.specs.declared.fault.LinkKind.TheVariants as kind

-- true is not false
clash : true ≡ false → ⊥
clash e = absurd cc

-- the least address that has two bytes is one
same_place : (es : List Extent) (f g : LinkFault) (a : IsOverlap es f) (b : IsOverlap es g) → a.at ≡ b.at
same_place es f g a b = elim (cases_lt a.at b.at) [
  | inl below ↦ let few = b.least a.at below in let double = a.double in absurd (omega arith)
  | inr from ↦ elim (cases_lt b.at a.at) [
    | inl above ↦ let few = a.least b.at above in let double = b.double in absurd (omega arith)
    | inr upto ↦ omega arith
  ]
]

-- and so is the overlap
same_overlap : (es : List Extent) (f g : LinkFault) → IsOverlap es f → IsOverlap es g → f ≡ g
same_overlap es f g a b =
    let place = same_place es f g a b in
    let seconds : Some a.second ≡ Some b.second = sym a.is_second ∙ ap (λ at. slice_get (filter (covers at) es) 1) place ∙ b.is_second in
    let second : a.second ≡ b.second = cc in
    let told : ◌≡◌ {A = LinkFault} (record { line = a.second.line; col = 1; kind = kind.Overlap a.at }) (record { line = b.second.line; col = 1; kind = kind.Overlap b.at }) =
    λ i. record { line = (second i).line; col = 1; kind = kind.Overlap (place i) } in
    a.told ∙ told ∙ sym b.told

-- where two bytes have an address the extents aren't disjoint
pub not_disjoint : (es : List Extent) (f : LinkFault) → IsOverlap es f → AreDisjoint es → ⊥
not_disjoint es f a apart = let few = apart a.at in let double = a.double in absurd (omega arith)

-- a layout has one refusal
pub one_refusal : (l : Layout) (f g : LinkFault) → IsRefused l f → IsRefused l g → f ≡ g
one_refusal l f g (inl a) (inl b) = a.1 ∙ sym b.1
one_refusal l f g (inl a) (inr (inl b)) = absurd (clash (sym a.0 ∙ b.0))
one_refusal l f g (inl a) (inr (inr b)) = absurd (clash (sym a.0 ∙ b.0))
one_refusal l f g (inr (inl a)) (inl b) = absurd (clash (sym b.0 ∙ a.0))
one_refusal l f g (inr (inl a)) (inr (inl b)) = same_overlap l.extents f g a.1 b.1
one_refusal l f g (inr (inl a)) (inr (inr b)) = absurd (not_disjoint l.extents f a.1 b.1)
one_refusal l f g (inr (inr a)) (inl b) = absurd (clash (sym b.0 ∙ a.0))
one_refusal l f g (inr (inr a)) (inr (inl b)) = absurd (not_disjoint l.extents g b.1 a.1)
one_refusal l f g (inr (inr a)) (inr (inr b)) = let one = a.2 in let other = b.2 in cc

-- and one that is refused isn't linkable
pub not_both : (l : Layout) (f : LinkFault) → IsLinkable l → IsRefused l f → ⊥
not_both l f links (inl a) = clash (sym a.0 ∙ links.fits)
not_both l f links (inr (inl a)) = not_disjoint l.extents f a.1 links.disjoint
not_both l f links (inr (inr a)) = let named = links.named in let some = a.2 in absurd cc

-- no section reaches behind the sum of their ends
abbrev ends : List Extent → ℕ
ends es = sum_by (λ (e : Extent). e.at + e.len) es

not_covered : (a : ℕ) (e : Extent) → e.at + e.len ≤ a → ◌≡◌ {A = ℕ} (cond (covers a e) 1 0) 0
not_covered a e h = grind (arith, nat_tests)

none_beyond : (es : List Extent) (a : ℕ) → ends es ≤ a → hits es a ≡ 0
none_beyond [] a h = refl
none_beyond (e ∷ es) a h =
    let all = sum_by-cons (λ (x : Extent). x.at + x.len) e es in
    let more = sum_by-cons (λ (x : Extent). cond (covers a x) 1 0) e es in
    omega (arith, more, not_covered a e (omega (arith, all, h)), none_beyond es a (omega (arith, all, h)))

-- below a number there is a least one of which two is said, or none
least_double : (f : ℕ → ℕ) (n : ℕ)
    → ((a : ℕ) → a < n → f a < 2) ⊎ ((at : ℕ) × (2 ≤ f at) × ((a : ℕ) → a < at → f a < 2))
least_double f zero = inl (λ a h. absurd (omega arith))
least_double f (suc n) = elim (least_double f n) [
  | inr found ↦ inr found
  | inl low ↦ elim (cases_lt (f n) 2) [
    | inl few ↦ inl (λ a h. elim (cases_lt a n) [
      | inl below ↦ low a below
      | inr from ↦ let same : n ≡ a = omega (arith, h, from) in subst (λ k. f k < 2) same few
    ])
    | inr double ↦ inr (n, double, low)
  ]
]

-- so sections are disjoint or overlap
apart_or_not : (es : List Extent) → AreDisjoint es ⊎ ((f : LinkFault) × IsOverlap es f)
apart_or_not es = elim (least_double (hits es) (ends es)) [
  | inl low ↦ inl (λ a. elim (cases_lt a (ends es)) [
    | inl below ↦ low a below
    | inr from ↦ omega (arith, none_beyond es a from)
  ])
  | inr found ↦ inr (overlap found.0 found.1 found.2)
]
  where
    nowhere : Extent
    nowhere = record { at = 0; len = 0; line = 0 }

    overlap : (at : ℕ) → 2 ≤ hits es at → ((a : ℕ) → a < at → hits es a < 2) → (f : LinkFault) × IsOverlap es f
    overlap at double least =
        let size = length-filter (covers at) es in
        let second = slice_get-get_or (filter (covers at) es) 1 nowhere (omega (arith, size, double)) in
        (_, record { at = at; second = _; double = double; least = least; is_second = second; told = refl })

-- and a layout is linkable or refused
linkable_or_refused : (l : Layout) → IsLinkable l ⊎ ((f : LinkFault) × IsRefused l f)
linkable_or_refused l = by_size (is_too_large l.extents) refl
  where
    by_symbols : is_too_large l.extents ≡ false → AreDisjoint l.extents → (o : Option LinkFault) → symbol_fault l ≡ o
        → IsLinkable l ⊎ ((f : LinkFault) × IsRefused l f)
    by_symbols small apart None e = inl (record { fits = small; disjoint = apart; named = e })
    by_symbols small apart (Some f) e = inr (f, inr (inr (small, apart, e)))

    by_size : (b : Bool) → is_too_large l.extents ≡ b → IsLinkable l ⊎ ((f : LinkFault) × IsRefused l f)
    by_size true e = inr (too_large, inl (e, refl))
    by_size false e = elim (apart_or_not l.extents) [
      | inl apart ↦ by_symbols e apart (symbol_fault l) refl
      | inr overlap ↦ inr (overlap.0, inr (inl (e, overlap.1)))
    ]

-- all together
pub one_verdict : (l : Layout) → HasOneFaultUnless (IsLinkable l) (IsRefused l)
one_verdict l = record {
  some = elim (linkable_or_refused l) [
    | inl links ↦ inl (tt, links)
    | inr refused ↦ inr refused
  ];
  not_both = λ value f links refused. not_both l f links refused;
  one_value = λ a b h k. refl;
  one_fault = λ f g a b. one_refusal l f g a b;
}

-- what a call that links answers, the other way round: a refusal is told, and nothing else of what is linkable
pub refusal_told : {X : Type 0} (l : Layout) (r : Result X LinkFault) → OnOk r (IsLinkable l)
    → IfErr r (λ fault. (fault ≡ memory_fault) ⊎ IsRefused l fault) → (e : LinkFault) → IsRefused l e
    → IsErrAnd r (λ fault. (fault ≡ memory_fault) ⊎ (fault ≡ e))
refusal_told l (Ok x) links told e refused = not_both l e links refused
refusal_told l (Err f) links (inl memory) e refused = inl memory
refusal_told l (Err f) links (inr told) e refused = inr (one_refusal l f e told refused)

pub linkable_told : {X : Type 0} (l : Layout) (r : Result X LinkFault)
    → IfErr r (λ fault. (fault ≡ memory_fault) ⊎ IsRefused l fault) → IsLinkable l → IfErr r (λ fault. fault ≡ memory_fault)
linkable_told l (Ok x) told links = tt
linkable_told l (Err f) (inl memory) links = memory
linkable_told l (Err f) (inr told) links = absurd (not_both l f links told)
