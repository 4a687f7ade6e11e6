-- No operand has more than eleven bytes: the target, which may have most, is a sign behind a dot and nine digits.
use Rattle.std.proofs.Common.{ℕ, ℤ, pos, negsuc, ◌≤◌, ◌^◌, length, decimal, arith}
use Rattle.std.specs.Prelude.{unsigned_abs}
use Rattle.std.proofs.lemmas.Fmt.{length-decimal-le}
use Rattle.m88_isa.specs.Instr.{FitsWords}

-- how far a target is that fits 26 bits
pub is_near : (words : ℤ) → FitsWords 25 words → unsigned_abs words ≤ 2 ^ 25
is_near (pos n) fits = omega (arith, fits)
is_near (negsuc n) fits = omega (arith, fits)

-- the digits of a distance in bytes
pub nine_digits : (bytes : ℕ) → bytes ≤ 2 ^ 27 → length (decimal bytes) ≤ 9
nine_digits bytes few = length-decimal-le 9 bytes (omega arith) (omega (arith, few)) (omega (arith, few))
