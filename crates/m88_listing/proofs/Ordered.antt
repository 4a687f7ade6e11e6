-- A stable sort by the value keeps the entries of each value in their order.
use Rattle.std.proofs.Common.{◌≡◌, ℕ, suc, ◌<◌, Bool, true, false, inl, inr, List, [], ◌∷◌, length, filter, refl, sym, ap, ◌∙◌, arith, None}
use Rattle.std.specs.Prelude.{◌==◌, slice_index_or}
use Rattle.std.proofs.lemmas.Bool.{cases_order, cond-true, cond-false, eq-eqb, ne_eqb}
use Rattle.std.specs.List.Sorted.{IsNonDecreasingBy, IsStableByKey, ties}
use Rattle.std.specs.Ordering.{is_lt, nat_cmp}
use Rattle.std.proofs.Math.Path.{fun_ext}
use Rattle.std.proofs.lemmas.Grind.{common_steps}
use Rattle.m88_listing.specs.Entries.{AreInOrder, has_value}
use Rattle.m88_listing.specs.declared.entries.Entry.{Entry}

-- entries that tie have one value
one_value : (x y : Entry) → ties (λ (a b : Entry). is_lt (nat_cmp a.value b.value)) x y ≡ has_value x.value y
one_value x y = grind (arith, common_steps)

pub in_order : (entries ordered : List Entry) → IsNonDecreasingBy (λ (e : Entry). e.value) ordered
    → IsStableByKey (λ (e : Entry). e.value) nat_cmp entries ordered → AreInOrder entries ordered
in_order entries ordered ascend stable = record {
  ascend = ascend;
  same = λ value.
      let x : Entry = record { value = value; section = None; name = []; owner = []; line = 0; global = false } in
      let test : ties (λ (a b : Entry). is_lt (nat_cmp a.value b.value)) x ≡ has_value value = fun_ext (one_value x) in
      ap (λ p. filter p ordered) (sym test) ∙ stable x ∙ ap (λ p. filter p entries) test;
}

-- entries in order are in one order
above_all : (value : ℕ) (es : List Entry) → ((j : ℕ) (d : Entry) → j < length es → value < (slice_index_or es j d).value)
    → filter (has_value value) es ≡ []
above_all value [] h = refl
above_all value (e ∷ es) h =
    cond-false (e.value == value) (e ∷ filter (has_value value) es) (filter (has_value value) es)
    (ne_eqb e.value value (λ same. let low = h 0 e (omega arith) in absurd (omega (arith, low, same))))
    ∙ above_all value es (λ j d l. h (suc j) d (omega (arith, l)))

own_first : (e : Entry) (es : List Entry) → filter (has_value e.value) (e ∷ es) ≡ e ∷ filter (has_value e.value) es
own_first e es = cond-true (e.value == e.value) (e ∷ filter (has_value e.value) es) (filter (has_value e.value) es) (eq-eqb e.value e.value refl)

not_empty : (e : Entry) (es fs : List Entry) → filter (has_value e.value) (e ∷ es) ≡ fs → fs ≡ [] → ⊥
not_empty e es fs is none = let both : e ∷ filter (has_value e.value) es ≡ [] = sym (own_first e es) ∙ is ∙ none in cc

tail_order : (e : Entry) (es : List Entry) → IsNonDecreasingBy (λ (x : Entry). x.value) (e ∷ es) → IsNonDecreasingBy (λ (x : Entry). x.value) es
tail_order e es h = λ i j d a b. h (suc i) (suc j) d (omega (arith, a)) (omega (arith, b))

head_above : (value : ℕ) (e : Entry) (es : List Entry) → value < e.value → IsNonDecreasingBy (λ (x : Entry). x.value) (e ∷ es)
    → filter (has_value value) (e ∷ es) ≡ []
head_above value e es l h = above_all value (e ∷ es) (λ j d k. let up = h 0 j d (omega arith) k in omega (arith, l, up))

same_tails : (y z : Entry) (ys zs : List Entry) → y ≡ z → ((value : ℕ) → filter (has_value value) (y ∷ ys) ≡ filter (has_value value) (z ∷ zs))
    → (value : ℕ) → filter (has_value value) ys ≡ filter (has_value value) zs
same_tails y z ys zs e h value = by (y.value == value) refl
  where
    shown : filter (has_value value) (y ∷ ys) ≡ filter (has_value value) (y ∷ zs)
    shown = h value ∙ ap (λ x. filter (has_value value) (x ∷ zs)) (sym e)

    by : (t : Bool) → (y.value == value) ≡ t → filter (has_value value) ys ≡ filter (has_value value) zs
    by true t =
        let a = cond-true (y.value == value) (y ∷ filter (has_value value) ys) (filter (has_value value) ys) t in
        let b = cond-true (y.value == value) (y ∷ filter (has_value value) zs) (filter (has_value value) zs) t in
        let both : y ∷ filter (has_value value) ys ≡ y ∷ filter (has_value value) zs = sym a ∙ shown ∙ b in
        cc
    by false t =
        sym (cond-false (y.value == value) (y ∷ filter (has_value value) ys) (filter (has_value value) ys) t) ∙ shown
        ∙ cond-false (y.value == value) (y ∷ filter (has_value value) zs) (filter (has_value value) zs) t

one_order : (ys zs : List Entry) → IsNonDecreasingBy (λ (x : Entry). x.value) ys → IsNonDecreasingBy (λ (x : Entry). x.value) zs
    → ((value : ℕ) → filter (has_value value) ys ≡ filter (has_value value) zs) → ys ≡ zs
one_order [] [] a b h = refl
one_order [] (z ∷ zs) a b h = absurd (not_empty z zs _ (sym (h z.value)) refl)
one_order (y ∷ ys) [] a b h = absurd (not_empty y ys _ (h y.value) refl)
one_order (y ∷ ys) (z ∷ zs) a b h = elim (cases_order y.value z.value) [
  | inl same ↦
      let firsts : y ∷ filter (has_value y.value) ys ≡ z ∷ filter (has_value z.value) zs =
      sym (own_first y ys) ∙ h y.value ∙ ap (λ v. filter (has_value v) (z ∷ zs)) same ∙ own_first z zs in
      let head : y ≡ z = cc in
      ap (λ x. x ∷ ys) head ∙ ap (λ xs. z ∷ xs) (one_order ys zs (tail_order y ys a) (tail_order z zs b) (same_tails y z ys zs head h))
  | inr (inl less) ↦ absurd (not_empty y ys _ (h y.value) (head_above y.value z zs less b))
  | inr (inr more) ↦ absurd (not_empty z zs _ (sym (h z.value)) (head_above z.value y ys more a))
]

pub ordered_once : (entries ys zs : List Entry) → AreInOrder entries ys → AreInOrder entries zs → ys ≡ zs
ordered_once entries ys zs a b = one_order ys zs a.ascend b.ascend (λ value. a.same value ∙ sym (b.same value))
