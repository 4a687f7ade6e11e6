-- The digits stand in order.
use Rattle.std.proofs.Common.{ℕ, zero, suc, arith, refl, ◌≡◌, ◌<◌, ◌%◌, [], ◌∷◌, slice_index_or}
use Rattle.m88_base.specs.Hex.{hex_digit}
use Rattle.m88_trace.proofs.parts.last_digit.Goals as goal

digit_at : (d : ℕ) → d < 16 →
    slice_index_or (48 ∷ 49 ∷ 50 ∷ 51 ∷ 52 ∷ 53 ∷ 54 ∷ 55 ∷ 56 ∷ 57 ∷ 65 ∷ 66 ∷ 67 ∷ 68 ∷ 69 ∷ 70 ∷ []) d 0
    ≡ hex_digit d
digit_at (suc (suc (suc (suc (suc (suc (suc (suc (suc (suc (suc (suc (suc (suc (suc (suc k)))))))))))))))) below = absurd (omega (arith, below))
digit_at _ below = refl

pub returns : goal.returns
returns c = digit_at (c.args.n % 16) (omega arith)
