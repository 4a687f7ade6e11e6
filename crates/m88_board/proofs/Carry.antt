-- The carry and MXM in the status: another carry, and those that an exception leaves.
use Rattle.std.specs.Prelude.{ℕ, Bool, true, false, ◌≡◌, ◌==◌, bit_or, max}
use Rattle.std.specs.Int.{bit_at}
use Rattle.std.proofs.Common.{arith, refl, ap, ◌∙◌}
use Rattle.std.proofs.lemmas.Nat.Bits.{bit_at_or}
use Rattle.m88_ctrl.specs.ControlRegisters.{ControlRegisters, carry_of, exception_bits, mxm_of, with_carry}
use Rattle.m88_event.specs.Shadow.{status_of}
use Rattle.m88_board.specs.Board.{BoardView}

-- a status with another carry
pub carried : (mxm old new : Bool) → with_carry new (status_of old mxm) ≡ status_of new mxm
carried true true true = refl
carried true true false = refl
carried true false true = refl
carried true false false = refl
carried false true true = refl
carried false true false = refl
carried false false true = refl
carried false false false = refl

-- the carry is a bit of PSR
pub carry_by : (b : BoardView) (control : ControlRegisters) → control.psr ≡ b.control.psr → carry_of control ≡ carry_of b.control
carry_by b control psr = ap (λ n. bit_at n 28 == 1) psr

-- and so is MXM
pub mxm_by : (b : BoardView) (control : ControlRegisters) → control.psr ≡ b.control.psr → mxm_of control ≡ mxm_of b.control
mxm_by b control psr = ap (λ n. bit_at n 2 == 1) psr

max_zero : (a b : ℕ) → b ≡ 0 → max a b ≡ a
max_zero a b h = omega (arith, h)

-- the program ends: PSR gains bits beside the carry
pub carry_entered : (control control' : ControlRegisters) →
    control'.psr ≡ bit_or control.psr exception_bits → carry_of control' ≡ carry_of control
carry_entered control control' psr =
    ap (λ n. bit_at n 28 == 1) psr
    ∙ ap (λ n. n == 1) (bit_at_or control.psr exception_bits 28 ∙ max_zero (bit_at control.psr 28) (bit_at exception_bits 28) refl)
