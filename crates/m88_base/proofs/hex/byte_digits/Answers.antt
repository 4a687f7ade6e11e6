-- The digits stand in the order of the bytes.
use Rattle.std.proofs.Common.{ℕ, zero, suc, Bool, true, T, [], ◌∷◌, ◌≡◌, ◌<◌, ◌+◌, ◌-◌, ◌*◌, ◌/◌, ◌%◌, ◌&&◌, eqb, eqb→eq, get_or, ap₂, arith, eq-zero-or-pos, inl, inr}
use lib.Ieee.Fits.{and_l, and_r}
use Rattle.m88_base.specs.Hex.{hex_digit}
use Rattle.m88_base.specs.declared.hex.TheConstants.{PAIRS}
use Rattle.m88_base.proofs.hex.byte_digits.Goals as goal

-- so it is of the bytes below one, by looking at each
abbrev are_pairs : ℕ → Bool
are_pairs zero = true
are_pairs (suc n) =
    (eqb (get_or PAIRS (n * 2) 0) (hex_digit (n / 16 % 16))
    && eqb (get_or PAIRS (n * 2 + 1) 0) (hex_digit (n / 1 % 16)))
    && are_pairs n

pair_at : (most n : ℕ) → T (are_pairs most) → n < most →
    (get_or PAIRS (n * 2) 0 ≡ hex_digit (n / 16 % 16)) × (get_or PAIRS (n * 2 + 1) 0 ≡ hex_digit (n / 1 % 16))
pair_at zero n are below = absurd (omega arith)
pair_at (suc most) n are below =
    elim (eq-zero-or-pos (most - n)) [
      | inl last ↦
          let e : n ≡ most = omega arith in
          let own = and_l _ (are_pairs most) are in
          rw e (eqb→eq _ _ (and_l _ _ own), eqb→eq _ _ (and_r _ _ own))
      | inr before ↦ pair_at most n (and_r _ (are_pairs most) are) (omega arith)
    ]

pub returns : goal.returns
returns c =
    let n = c.args.n in
    let pair = pair_at 256 n tt (omega arith) in
    rw c.from-from.ensures (ap₂ (λ (d e : ℕ). d ∷ e ∷ []) pair.0 pair.1)
