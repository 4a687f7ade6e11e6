-- What a loader keeps of a line whose end has not come (Motorola S-record format): its first bytes, as many as the
-- longest record has, and of a longer line how many bytes it has and whether the others are hexadecimal digits.
use Rattle.std.specs.Prelude.{ℕ, Bool, List, drop, length, take}
use Rattle.std.specs.Char.{is_digit}
use Rattle.std.specs.List.{list_all}

-- the most bytes of a line that are kept: the letter, the type digit, and 256 pairs
abbrev pub most_kept : ℕ
most_kept = 514

-- what is kept of a line
pub record LineFront : Type 0 where
  pub kept : List ℕ
  pub len : ℕ
  pub digits : Bool

-- a hexadecimal digit of either case
abbrev pub is_hexadecimal : ℕ → Bool
is_hexadecimal b = is_digit b 16

-- what is kept of the bytes of a line
abbrev pub front_of : List ℕ → LineFront
front_of line = record {
  kept = take most_kept line;
  len = length line;
  digits = list_all is_hexadecimal (drop most_kept line);
}
