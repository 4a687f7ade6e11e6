-- Upper-case hexadecimal digits of a fixed number, the highest first, as every format writes them.
use Rattle.std.specs.Prelude.{ℕ, ◌/◌, ◌%◌, ◌^◌, ◌==◌, ◌&&◌, ◌||◌, Bool, List, [], ◌∷◌, map, length, nat_le, if◌then◌else◌, Option, Some, None, true}
use Rattle.std.specs.Fmt.{digit_glyph}
use Rattle.std.specs.List.{list_all}
use Rattle.std.specs.Str.Parse.{digits_value}

-- the digit of a number below 16, 0 to 9 and A to F
abbrev pub hex_digit : ℕ → ℕ
hex_digit d = digit_glyph true d

-- a word in eight digits
abbrev pub hex8 : ℕ → List ℕ
hex8 n = map (λ k. hex_digit (n / 16 ^ k % 16)) (7 ∷ 6 ∷ 5 ∷ 4 ∷ 3 ∷ 2 ∷ 1 ∷ 0 ∷ [])

-- a byte in two digits
abbrev pub hex2 : ℕ → List ℕ
hex2 n = map (λ k. hex_digit (n / 16 ^ k % 16)) (1 ∷ 0 ∷ [])

-- the byte is one of these digits
abbrev pub is_hex_digit : ℕ → Bool
is_hex_digit b = nat_le 48 b && nat_le b 57 || nat_le 65 b && nat_le b 70

-- the text is eight of them
abbrev pub is_hex8 : List ℕ → Bool
is_hex8 text = length text == 8 && list_all is_hex_digit text

-- the word that eight digits write, where the text is eight digits
abbrev pub hex8_of : List ℕ → Option ℕ
hex8_of text = if is_hex8 text then Some (digits_value 16 text) else None
