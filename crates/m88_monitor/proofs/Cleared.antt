-- A word of registers that wait, in which r0 never does, stays one as a bit is cleared: SSBR keeps all of it.
use Rattle.std.proofs.Common.{ℕ, zero, suc, ◌≡◌, ◌<◌, ◌-◌, ◌*◌, ◌/◌, ◌%◌, ◌^◌, arith, subst, sym}
use Rattle.std.proofs.Math.Nat.{pow-suc}
use Rattle.std.proofs.lemmas.Nat.Bits.{bit_at-lt}
use Rattle.std.specs.Int.{bit_at}
use Rattle.m88_ctrl.specs.ControlRegisters.{kept_of}
use Rattle.m88_monitor.specs.Serving.{without_bit}

-- an even number less twice another is even
even_less : (b p word : ℕ) → b < 2 → word % 2 ≡ 0 → (word - b * (2 * p)) / 2 * 2 ≡ word - b * (2 * p)
even_less zero p word h e = omega (arith, e)
even_less (suc zero) p word h e = omega (arith, e)
even_less (suc (suc b)) p word h e = absurd (omega (arith, h))

pub cleared_kept : (n word : ℕ) → bit_at word 0 ≡ 0 → kept_of 3 (without_bit n word) ≡ without_bit n word
cleared_kept zero word e = omega (arith, e)
cleared_kept (suc n) word e =
    let twice : 2 ^ suc n ≡ 2 * 2 ^ n = omega (arith, pow-suc 2 n) in
    let even : word % 2 ≡ 0 = omega (arith, e) in
    subst (λ (w : ℕ). (word - bit_at word (suc n) * w) / 2 * 2 ≡ word - bit_at word (suc n) * w) (sym twice)
    (even_less (bit_at word (suc n)) (2 ^ n) word (bit_at-lt word (suc n)) even)
