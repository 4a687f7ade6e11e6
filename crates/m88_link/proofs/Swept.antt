-- The search for the least address that two sections have, one section on, and what it finds.
use Rattle.std.proofs.Common.{◌≡◌, ℕ, ◌+◌, ◌<◌, ◌≤◌, List, [], ◌∷◌, ◌++◌, length, take, drop, get_or, refl, sym, ap, subst, ◌∙◌, cond, arith, inl, inr}
use Rattle.std.proofs.lemmas.Bool.Decides.{leb_tells, nat_tests}
use Rattle.std.proofs.lemmas.List.{length-drop, length-take, drop_more, get_or-drop, get_or-take, take-append-drop, take_all, take_more}
use Rattle.std.proofs.lemmas.List.Elements.{All-from_get_or, recursion_from_All}
use Rattle.std.proofs.lemmas.List.Sorted.{sum_by-IsPermutation}
use Rattle.std.specs.List.Sorted.{IsPermutation}
use Rattle.std.specs.Prelude.{None, filter, slice_get}
use Rattle.std.proofs.lemmas.List.Sums.{length-filter, sum_by-append, sum_by-cons, sum_by_push}
use Rattle.std.specs.List.{AllByRecursion}
use Rattle.std.specs.List.Sorted.{IsNonDecreasingBy}
use Rattle.m88_link.specs.Layout.{Extent}
use Rattle.m88_link.specs.Refusal.{covers, hits, AreDisjoint}
use Rattle.m88_link.specs.Inside.Overlap.{IsLeastDouble}

-- sections in ascending order without an address that two of them have, the last byte just below `reach`
pub record IsSwept (reach : ℕ) (extents : List Extent) : Type 0 where
  pub once : (a : ℕ) → hits extents a ≤ 1
  pub past : (a : ℕ) → reach ≤ a → hits extents a ≡ 0
  pub within : (a : ℕ) → AllByRecursion (λ e. e.at ≤ a) extents → a < reach → 1 ≤ hits extents a

-- how many bytes one section has at an address
abbrev one : ℕ → Extent → ℕ
one a e = cond (covers a e) 1 0

one_in : (a : ℕ) (e : Extent) → e.at ≤ a → a < e.at + e.len → one a e ≡ 1
one_in a e low high = grind (arith, nat_tests)

one_below : (a : ℕ) (e : Extent) → a < e.at → one a e ≡ 0
one_below a e h = grind (arith, nat_tests)

one_above : (a : ℕ) (e : Extent) → e.at + e.len ≤ a → one a e ≡ 0
one_above a e h = grind (arith, nat_tests)

one_at_most : (a : ℕ) (e : Extent) → one a e ≤ 1
one_at_most a e = grind (arith, nat_tests)

one_empty : (a : ℕ) (e : Extent) → e.len ≡ 0 → one a e ≡ 0
one_empty a e h = grind (arith, nat_tests)

hits-push : (es : List Extent) (e : Extent) (a : ℕ) → hits (es ++ e ∷ []) a ≡ hits es a + one a e
hits-push es e a = sum_by_push (one a) es e

hits-middle : (es : List Extent) (e : Extent) (rest : List Extent) (a : ℕ) → hits (es ++ e ∷ rest) a ≡ hits es a + (one a e + hits rest a)
hits-middle es e rest a = sum_by-append (one a) es (e ∷ rest) ∙ ap (λ n. hits es a + n) (sum_by-cons (one a) e rest)

all_front : (P : Extent → Type 0) (xs ys : List Extent) → AllByRecursion P (xs ++ ys) → AllByRecursion P xs
all_front P [] ys h = tt
all_front P (x ∷ xs) ys h = (h.0, all_front P xs ys h.1)

all_last : (P : Extent → Type 0) (xs : List Extent) (y : Extent) → AllByRecursion P (xs ++ y ∷ []) → P y
all_last P [] y h = h.0
all_last P (x ∷ xs) y h = all_last P xs y h.1

pub swept_empty : (reach : ℕ) (es : List Extent) (e : Extent) → IsSwept reach es → e.len ≡ 0 → IsSwept reach (es ++ e ∷ [])
swept_empty reach es e s h = record {
  once = λ a. omega (arith, hits-push es e a, one_empty a e h, s.once a);
  past = λ a k. omega (arith, hits-push es e a, one_empty a e h, s.past a k);
  within = λ a all k. omega (arith, hits-push es e a, s.within a (all_front (λ x. x.at ≤ a) es (e ∷ []) all) k);
}

pub swept_more : (reach : ℕ) (es : List Extent) (e : Extent) → IsSwept reach es → reach ≤ e.at → IsSwept (e.at + e.len) (es ++ e ∷ [])
swept_more reach es e s h = record {
  once = λ a. elim (leb_tells e.at a) [
    | inl from ↦ omega (arith, hits-push es e a, one_at_most a e, s.past a (omega (arith, from.1)))
    | inr low ↦ omega (arith, hits-push es e a, one_below a e low.1, s.once a)
  ];
  past = λ a k. omega (arith, hits-push es e a, one_above a e k, s.past a (omega arith));
  within = λ a all k. omega (arith, hits-push es e a, one_in a e (all_last (λ x. x.at ≤ a) es e all) k);
}

none_below : (rest : List Extent) (low a : ℕ) → AllByRecursion (λ x. low ≤ x.at) rest → a < low → hits rest a ≡ 0
none_below [] low a all h = refl
none_below (e ∷ es) low a all h =
    omega (arith, sum_by-cons (one a) e es, one_below a e (omega (arith, all.0)), none_below es low a all.1 h)

pub double_found : (reach : ℕ) (es : List Extent) (e : Extent) (rest : List Extent) → IsSwept reach es → 0 < e.len → e.at < reach
    → AllByRecursion (λ x. x.at ≤ e.at) es → AllByRecursion (λ x. e.at ≤ x.at) rest → IsLeastDouble (es ++ e ∷ rest) e.at
double_found reach es e rest s some h before behind = record {
  double = omega (arith, hits-middle es e rest e.at, one_in e.at e (omega arith) (omega arith), s.within e.at before h);
  least = λ a low. omega (arith, hits-middle es e rest a, one_below a e low, none_below rest e.at a behind low, s.once a);
}

module _ (es : List Extent) (sorted : IsNonDecreasingBy (λ e. e.at) es) (i : ℕ) (e : Extent) (within : i < length es) (is : e ≡ get_or es i e) where
  cut_here : es ≡ take i es ++ e ∷ drop (i + 1) es
  cut_here = sym (take-append-drop i es) ∙ ap (λ l. take i es ++ l) (drop_more es i e within ∙ ap (λ x. x ∷ drop (i + 1) es) (sym is))

  taken_more : take (i + 1) es ≡ take i es ++ e ∷ []
  taken_more = take_more es i e within ∙ ap (λ x. take i es ++ x ∷ []) (sym is)

  before : AllByRecursion (λ x. x.at ≤ e.at) (take i es)
  before = recursion_from_All (λ x. x.at ≤ e.at) (take i es) (All-from_get_or (λ x. x.at ≤ e.at) (take i es) e
      (λ k h.
      let low : k < i = omega (arith, length-take i es) in
      omega (arith, sorted k i e (omega arith) within, ap (λ (x : Extent). x.at) is, ap (λ (x : Extent). x.at) (get_or-take i es k e low))))

  behind : AllByRecursion (λ x. e.at ≤ x.at) (drop (i + 1) es)
  behind = recursion_from_All (λ x. e.at ≤ x.at) (drop (i + 1) es) (All-from_get_or (λ x. e.at ≤ x.at) (drop (i + 1) es) e
      (λ k h.
      let high : i + 1 + k < length es = omega (arith, length-drop (i + 1) es) in
      omega (arith, sorted i (i + 1 + k) e (omega arith) high, ap (λ (x : Extent). x.at) is, ap (λ (x : Extent). x.at) (get_or-drop (i + 1) es k e))))

  pub first_double_at : (reach : ℕ) → IsSwept reach (take i es) → 0 < e.len → e.at < reach → IsLeastDouble es e.at
  first_double_at reach s some h =
      subst (λ l. IsLeastDouble l e.at) (sym cut_here) (double_found reach (take i es) e (drop (i + 1) es) s some h before behind)

  pub swept_empty_at : (reach : ℕ) → IsSwept reach (take i es) → e.len ≡ 0 → IsSwept reach (take (i + 1) es)
  swept_empty_at reach s h = subst (λ l. IsSwept reach l) (sym taken_more) (swept_empty reach (take i es) e s h)

  pub swept_more_at : (reach : ℕ) → IsSwept reach (take i es) → reach ≤ e.at → IsSwept (e.at + e.len) (take (i + 1) es)
  swept_more_at reach s h = subst (λ l. IsSwept (e.at + e.len) l) (sym taken_more) (swept_more reach (take i es) e s h)

pub swept_all : (reach i : ℕ) (es : List Extent) → IsSwept reach (take i es) → length es ≤ i → AreDisjoint es
swept_all reach i es s h = λ a. omega (arith, s.once a, ap (λ l. hits l a) (take_all i es h))

-- as many sections have an address whatever their order
hits-IsPermutation : (xs ys : List Extent) (a : ℕ) → IsPermutation xs ys → hits ys a ≡ hits xs a
hits-IsPermutation xs ys a same = sum_by-IsPermutation (one a) xs ys same

pub disjoint_in_order : (xs ys : List Extent) → IsPermutation xs ys → AreDisjoint ys → AreDisjoint xs
disjoint_in_order xs ys same h = λ a. omega (arith, hits-IsPermutation xs ys a same, h a)

pub double_in_order : (xs ys : List Extent) (at : ℕ) → IsPermutation xs ys → IsLeastDouble ys at → IsLeastDouble xs at
double_in_order xs ys at same h = record {
  double = omega (arith, hits-IsPermutation xs ys at same, h.double);
  least = λ a low. omega (arith, hits-IsPermutation xs ys a same, h.least a low);
}

-- where two sections have an address there is a second one
pub has_second : (es : List Extent) (a : ℕ) → 2 ≤ hits es a → slice_get (filter (covers a) es) 1 ≡ None → ⊥
has_second es a two none = absent (filter (covers a) es) (omega (arith, two, length-filter (covers a) es)) none
  where
    absent : (xs : List Extent) → 2 ≤ length xs → slice_get xs 1 ≡ None → ⊥
    absent [] h e = absurd (omega arith)
    absent (x ∷ []) h e = absurd (omega arith)
    absent (x ∷ y ∷ ys) h e = cc
