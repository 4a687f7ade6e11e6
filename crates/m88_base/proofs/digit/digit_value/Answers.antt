-- The values stand in the order of the bytes.
use Rattle.std.proofs.Common.{ℕ, zero, suc, Bool, true, T, ◌≡◌, ◌<◌, ◌-◌, ◌&&◌, eqb, eqb→eq, get_or, arith, eq-zero-or-pos, inl, inr}
use lib.Ieee.Fits.{and_l, and_r}
use Rattle.std.specs.Char.{digit_value}
use Rattle.m88_base.specs.declared.digit.TheConstants.{VALUES}
use Rattle.m88_base.proofs.digit.digit_value.Goals as goal

-- so it is of the bytes below one, by looking at each
abbrev are_values : ℕ → Bool
are_values zero = true
are_values (suc n) = eqb (get_or VALUES n 0) (digit_value n) && are_values n

value_at : (most n : ℕ) → T (are_values most) → n < most → get_or VALUES n 0 ≡ digit_value n
value_at zero n are below = absurd (omega arith)
value_at (suc most) n are below =
    elim (eq-zero-or-pos (most - n)) [
      | inl last ↦
          let e : n ≡ most = omega arith in
          rw e (eqb→eq _ _ (and_l _ (are_values most) are))
      | inr before ↦ value_at most n (and_r _ (are_values most) are) (omega arith)
    ]

pub returns : goal.returns
returns c = rw c.from.ensures (value_at 256 c.args.digit tt (omega arith))
