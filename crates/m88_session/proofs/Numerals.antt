-- Short numbers: which texts the reading takes, and what they write.
use Rattle.std.proofs.Common.{◌≡◌, Option, ℕ, ◌≤◌, List, true, Some, None, length, sym, nat_le}
use Rattle.std.specs.Prelude.{IfSome}
use Rattle.std.specs.Str.Parse.{IsNumeral, digits_value}
use Rattle.std.proofs.lemmas.Bool.{and_parts, leb-true}
use Rattle.m88_base.proofs.Laws.{all_are, are_all, are_digits, tells, value_told}
use Rattle.m88_base.specs.Numerals.{is_numeral, number_in}
use Rattle.m88_session.specs.Numbers.{IsShortNumber}

-- the test of a numeral says that it is one
numeral : (base : ℕ) (text : List ℕ) → is_numeral base text ≡ true → IsNumeral base text
numeral base text e = let k = and_parts (nat_le 1 (length text)) (are_digits base text) e in (leb-true 1 (length text) k.0, all_are base text k.1)

-- a number that is read is a short one
pub short_found : (base most_digits most : ℕ) (text : List ℕ) (o : Option ℕ) → length text ≤ most_digits → o ≡ number_in base most text
    → IfSome o (IsShortNumber base most_digits text)
short_found base most_digits most text None short e = tt
short_found base most_digits most text (Some n) short e =
    let k = value_told (is_numeral base text) (nat_le (digits_value base text) most) (digits_value base text) n (sym e) in
    record { numeral = numeral base text k.0; short = short; value = sym k.2 }

-- and a short one is read
pub short_told : (base most_digits most n : ℕ) (text : List ℕ) → n ≤ most → IsShortNumber base most_digits text n → number_in base most text ≡ Some n
short_told base most_digits most n text below h =
    tells base most n text h.numeral.0 (are_all base text h.numeral.1) (sym h.value) below
