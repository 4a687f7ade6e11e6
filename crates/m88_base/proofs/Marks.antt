-- A text is cut at its first mark, in one way.
use Rattle.std.proofs.Common.{◌≡◌, ℕ, ◌≤◌, ◌<◌, ◌==◌, List, [], ◌∷◌, ◌++◌, Bool, true, false, not, ◌&&◌, refl, ap, sym, ◌∙◌, arith}
use Rattle.std.specs.Prelude.{Option, Some}
use Rattle.std.specs.Str.Parse.{AllDigits}
use Rattle.std.specs.Char.{digit_value}
use Rattle.std.specs.List.{list_all}
use Rattle.std.proofs.lemmas.Bool.{and_parts, eq-eqb, eqb-true}
use Rattle.m88_base.proofs.Splitting.{split_first}
use Rattle.m88_base.specs.Cut.{Lacks, split_at_byte}

-- one test of two
joins : (a b : Bool) → a ≡ true → b ≡ true → (a && b) ≡ true
joins true true e f = refl
joins true false e f = f
joins false b e f = e

-- no digit is a mark that is none of the base's digits
other_digit : (mark base d : ℕ) (t : Bool) → (d == mark) ≡ t → base ≤ digit_value mark → digit_value d < base → not t ≡ true
other_digit mark base d true e none digit =
    let value : digit_value d ≡ digit_value mark = ap digit_value (eqb-true d mark e) in
    absurd (omega (arith, value))
other_digit mark base d false e none digit = refl

pub none_in_digits : (mark base : ℕ) (ds : List ℕ) → base ≤ digit_value mark → AllDigits base ds → Lacks mark ds
none_in_digits mark base [] none h = refl
none_in_digits mark base (d ∷ ds) none h =
    joins (not (d == mark)) (list_all (λ b. not (b == mark)) ds) (other_digit mark base d (d == mark) refl none h.0) (none_in_digits mark base ds none h.1)

-- the first byte of a text without the mark is none, and the rest has none
parts : (mark c : ℕ) (a : List ℕ) → Lacks mark (c ∷ a) → (not (c == mark) ≡ true) × Lacks mark a
parts mark c a none = and_parts (not (c == mark)) (list_all (λ b. not (b == mark)) a) none

-- a text with the mark has one
pub not_cut : (mark : ℕ) (a b : List ℕ) → Lacks mark (a ++ mark ∷ b) → ⊥
not_cut mark [] b none = absurd (let k = parts mark mark b none in let same : not true ≡ true = sym (ap not (eq-eqb mark mark refl)) ∙ k.0 in cc)
not_cut mark (c ∷ a) b none = not_cut mark a b (parts mark c (a ++ mark ∷ b) none).1

-- a cut has one answer
one_cut : (p q : List ℕ × List ℕ) (o : Option (List ℕ × List ℕ)) → o ≡ Some p → o ≡ Some q → p ≡ q
one_cut p q o e f = cc

-- a text is cut at its first mark in one way
pub cut_once : (mark : ℕ) (a b c d : List ℕ) → Lacks mark a → Lacks mark c → a ++ mark ∷ b ≡ c ++ mark ∷ d → (a ≡ c) × (b ≡ d)
cut_once mark a b c d none nor e =
    let same = one_cut (a, b) (c, d) (split_at_byte mark (a ++ mark ∷ b)) (split_first mark a b none)
    (ap (split_at_byte mark) e ∙ split_first mark c d nor) in
    (ap (λ (p : List ℕ × List ℕ). p.0) same, ap (λ (p : List ℕ × List ℕ). p.1) same)
