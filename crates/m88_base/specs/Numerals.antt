-- Numbers that a text writes by digits of any count.
use Rattle.std.specs.Prelude.{ℕ, ◌==◌, ◌&&◌, ◌||◌, Bool, List, length, nat_le, not, slice_index, if◌then◌else◌, Option, Some, None}
use Rattle.std.specs.Char.{is_digit}
use Rattle.std.specs.List.{list_all}
use Rattle.std.specs.Str.Parse.{digits_value}

-- the text is one or more digits of the base, letters of either case
abbrev pub is_numeral : ℕ → List ℕ → Bool
is_numeral base text = nat_le 1 (length text) && list_all (λ b. is_digit b base) text

-- the number that digits of the base write, zeros in front allowed, where it is at most `most`
abbrev pub number_in : ℕ → ℕ → List ℕ → Option ℕ
number_in base most text =
    if is_numeral base text && nat_le (digits_value base text) most then Some (digits_value base text) else None

-- the text begins with a 0 only where that is all of it
abbrev pub has_no_needless_zero : List ℕ → Bool
has_no_needless_zero text = length text == 1 || not (slice_index text 0 == 48)

-- the number that decimal digits without a needless zero write, where it is at most `most`
abbrev pub decimal_in : ℕ → List ℕ → Option ℕ
decimal_in most text = if has_no_needless_zero text then number_in 10 most text else None
