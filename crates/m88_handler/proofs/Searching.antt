-- The first number that passes a test, looked for one after the other and piece by piece.
use Rattle.std.specs.Prelude.{ℕ, zero, suc, Bool, true, false, Some, None, ◌≡◌, ◌+◌, ◌<◌, ◌≤◌}
use Rattle.std.proofs.Common.{arith, refl, sym, ap, add-one, ◌∙◌}
use Rattle.m88_isa.proofs.Laws.{by_test, none_from}
use Rattle.m88_isa.specs.Held.{first_from}

one_passes : (s m : ℕ) (t : ℕ → Bool) → t s ≡ true → first_from s (suc m) t ≡ Some s
unfolding first_from
one_passes s m t e = rw e refl

one_fails : (s m : ℕ) (t : ℕ → Bool) → t s ≡ false → first_from s (suc m) t ≡ first_from (s + 1) m t
unfolding first_from
one_fails s m t e = rw e refl

-- the first of some passes
pub passes : (s n : ℕ) (t : ℕ → Bool) → 0 < n → t s ≡ true → first_from s n t ≡ Some s
passes s zero t some e = absurd (omega (arith, some))
passes s (suc m) t some e = one_passes s m t e

-- the first fails
pub fails : (s n m : ℕ) (t : ℕ → Bool) → n ≡ m + 1 → t s ≡ false → first_from s n t ≡ first_from (s + 1) m t
fails s n m t e f = ap (λ (k : ℕ). first_from s k t) (e ∙ add-one m) ∙ one_fails s m t f

-- none of none passes
pub none_left : (s n : ℕ) (t : ℕ → Bool) → n ≡ 0 → first_from s n t ≡ None
unfolding first_from
none_left s n t e = ap (λ (k : ℕ). first_from s k t) e

-- none of some at the front passes
pub skipped : (k s n m : ℕ) (t : ℕ → Bool) → n ≡ k + m → ((j : ℕ) → s ≤ j → j < s + k → t j ≡ false)
    → first_from s n t ≡ first_from (s + k) m t
skipped zero s n m t e none =
    let same : n ≡ m = omega (arith, e) in
    let here : s + 0 ≡ s = omega arith in
    ap (λ (k : ℕ). first_from s k t) same ∙ sym (ap (λ (k : ℕ). first_from k m t) here)
skipped (suc k) s n m t e none =
    let less : n ≡ (k + m) + 1 = omega (arith, e) in
    let on : (s + 1) + k ≡ s + suc k = omega arith in
    fails s n (k + m) t less (none s (omega arith) (omega arith))
    ∙ skipped k (s + 1) (k + m) m t refl (λ j low high. none j (omega (arith, low)) (omega (arith, high)))
    ∙ ap (λ (b : ℕ). first_from b m t) on

-- the same where none is found in front
pub skipped_none : (k s n m : ℕ) (t : ℕ → Bool) → n ≡ k + m → first_from s k t ≡ None → first_from s n t ≡ first_from (s + k) m t
skipped_none k s n m t e none = skipped k s n m t e (λ j low high. none_from s k t j none low high)

-- one that is found in front is found
pub found_first : (k s n j : ℕ) (t : ℕ → Bool) → k ≤ n → first_from s k t ≡ Some j → first_from s n t ≡ Some j
unfolding first_from
found_first zero s n j t most e = absurd cc
found_first (suc k) s zero j t most e = absurd (omega (arith, most))
found_first (suc k) s (suc n) j t most e = by_test (t s)
    (λ passes. one_passes s n t passes ∙ sym (one_passes s k t passes) ∙ e)
    (λ failing. one_fails s n t failing ∙ found_first k (s + 1) n j t (omega (arith, most)) (sym (one_fails s k t failing) ∙ e))

-- none of some passes
pub none_in : (s n : ℕ) (t : ℕ → Bool) → ((j : ℕ) → s ≤ j → j < s + n → t j ≡ false) → first_from s n t ≡ None
none_in s n t none = skipped n s n 0 t (omega arith) none ∙ none_left (s + n) 0 t refl
