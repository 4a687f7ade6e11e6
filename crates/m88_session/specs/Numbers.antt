-- Numbers in the words of a command and in the lines of a script.
use Rattle.std.specs.Prelude.{ℕ, ◌≡◌, ◌≤◌, List, length}
use Rattle.std.specs.Str.Parse.{IsNumeral, digits_value}

-- a text writes a number in one to so many digits of a base, which may begin with zeros; letters may be of either case
pub record IsShortNumber (base most_digits : ℕ) (text : List ℕ) (n : ℕ) : Type 0 where
  pub numeral : IsNumeral base text
  pub short : length text ≤ most_digits
  pub value : n ≡ digits_value base text
