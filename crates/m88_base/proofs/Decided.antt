-- Statements that hold or fail.
use Rattle.std.proofs.Common.{◌≡◌, ℕ, ◌≤◌, List, [], ◌∷◌, inl, inr, refl, arith}
use Rattle.std.specs.Prelude.{◌⊎◌}
use Rattle.std.proofs.lemmas.Bool.{cases_eq}
use Rattle.std.proofs.lemmas.Bool.Decides.{leb_tells}

-- a statement holds or fails
abbrev pub IsDecided : Type 0 → Type 0
IsDecided P = P ⊎ (P → ⊥)

-- two statements together
pub both_decided : {P Q : Type 0} → IsDecided P → IsDecided Q → IsDecided (P × Q)
both_decided (inl p) (inl q) = inl (p, q)
both_decided (inl p) (inr fails) = inr (λ h. fails h.1)
both_decided (inr fails) q = inr (λ h. fails h.0)

-- a number is at most another
pub at_most : (a b : ℕ) → IsDecided (a ≤ b)
at_most a b = elim (leb_tells a b) [
  | inl few ↦ inl few.1
  | inr many ↦ inr (λ h. absurd (omega (arith, many.1, h)))
]

-- texts are the same
pub same_text : (xs ys : List ℕ) → IsDecided (xs ≡ ys)
same_text [] [] = inl refl
same_text [] (y ∷ ys) = inr (λ e. absurd cc)
same_text (x ∷ xs) [] = inr (λ e. absurd cc)
same_text (x ∷ xs) (y ∷ ys) = elim (cases_eq x y) [
  | inr other ↦ inr (λ e. other (let same : x ≡ y = cc in same))
  | inl first ↦ elim (same_text xs ys) [
    | inr other ↦ inr (λ e. other (let same : xs ≡ ys = cc in same))
    | inl rest ↦ inl (let both : x ∷ xs ≡ y ∷ ys = cc in both)
  ]
]
