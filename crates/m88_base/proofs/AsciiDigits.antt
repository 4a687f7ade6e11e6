-- Digits are ASCII, and so they are text.
use Rattle.std.proofs.Common.{◌<◌, ◌%◌, ◌/◌, ◌^◌, ℕ, List, [], ◌∷◌, arith, map}
use Rattle.std.specs.Str.{IsAscii}
use Rattle.std.proofs.lemmas.Bool.Decides.{nat_tests}
use Rattle.std.proofs.lemmas.Str.Ascii.{IsAscii-cons, IsAscii-nil}
use Rattle.m88_base.specs.Hex.{hex_digit}

digit_ascii : (d : ℕ) → d < 16 → hex_digit d < 128
digit_ascii d small = grind (arith, nat_tests)

place_ascii : (n k : ℕ) → hex_digit (n / 16 ^ k % 16) < 128
place_ascii n k = digit_ascii (n / 16 ^ k % 16) (omega arith)

-- the digits of a number at some places
pub places_ascii : (n : ℕ) (ks : List ℕ) → IsAscii (map (λ k. hex_digit (n / 16 ^ k % 16)) ks)
places_ascii n [] = IsAscii-nil
places_ascii n (k ∷ ks) = IsAscii-cons _ _ (place_ascii n k) (places_ascii n ks)
