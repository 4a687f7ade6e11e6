-- The law of numbers: a run is read as a number exactly where it is the number's digits.
use Rattle.std.proofs.Common.{◌≡◌, ℕ, ◌<◌, ◌≤◌, Bool, true, false, not, ◌&&◌, ◌==◌, nat_lt, inl, inr, List, [], ◌∷◌, length, drop, Ok, Err, refl, sym, ap, ◌∙◌, arith, eqb-true, ne_eqb, ltb-true, lt-ltb, le-ltb, Result, if◌then◌else◌}
use Rattle.std.specs.Str.Parse.{digits_value}
use Rattle.m88_parse.specs.declared.fault.ParseKind.{ParseKind}
use Rattle.m88_parse.specs.declared.fault.ParseKind.TheVariants.{Syntax, OutOfRange}
use Rattle.m88_parse.specs.Inside.Tokens.{is_hexadecimal_number, is_decimal, bounded, numeral}
use Rattle.m88_parse.specs.Language.Bytes.{are_digits}
use Rattle.m88_parse.specs.Language.Tokens.{IsDecimal, IsHexadecimal, IsNumeral}
use Rattle.m88_parse.proofs.Law.TestsAndChoices.{both, chosen, not_true, take_then, take_else}
use Rattle.std.proofs.lemmas.Bool.{eqb-false}

pub hexadecimal_is : (run : List ℕ) → is_hexadecimal_number run ≡ true → IsHexadecimal run (digits_value 16 (drop 2 run))
hexadecimal_is [] h = absurd cc
hexadecimal_is (a ∷ []) h = absurd cc
hexadecimal_is (a ∷ b ∷ []) h = absurd cc
hexadecimal_is (a ∷ b ∷ d ∷ ds) h =
    let j = both (a == 48 && b == 120) (are_digits 16 (d ∷ ds)) h in
    let k = both (a == 48) (b == 120) j.0 in
    let e = eqb-true a 48 k.0 in
    let f = eqb-true b 120 k.1 in
    record { digits = d ∷ ds; bytes = cc; some = omega arith; hexadecimal = j.1; value = refl }

pub is_hexadecimal_again : (run digits : List ℕ) → run ≡ 48 ∷ 120 ∷ digits → 0 < length digits → are_digits 16 digits ≡ true → is_hexadecimal_number run ≡ true
is_hexadecimal_again run [] e s h = absurd (omega arith)
is_hexadecimal_again run (d ∷ ds) e s h = ap is_hexadecimal_number e ∙ h

pub decimal_is : (run : List ℕ) → 0 < length run → is_decimal run ≡ true → IsDecimal run (digits_value 10 run)
decimal_is [] s h = absurd (omega arith)
decimal_is (d ∷ []) s h = record { some = s; digits = h; short = tt; value = refl }
decimal_is (d ∷ e ∷ ds) s h =
    let j = both (not (d == 48)) (are_digits 10 (d ∷ e ∷ ds)) h in
    record { some = s; digits = j.1; short = eqb-false d 48 (not_true (d == 48) j.0); value = refl }

pub is_decimal_again : (run : List ℕ) (n : ℕ) → IsDecimal run n → is_decimal run ≡ true
is_decimal_again [] n h = refl
is_decimal_again (d ∷ []) n h = h.digits
is_decimal_again (d ∷ e ∷ ds) n h = ap (λ (b : Bool). not b && are_digits 10 (d ∷ e ∷ ds)) (ne_eqb d 48 h.short) ∙ h.digits

not_both : (run : List ℕ) (n : ℕ) → IsDecimal run n → is_hexadecimal_number run ≡ false
not_both [] n h = refl
not_both (a ∷ []) n h = refl
not_both (a ∷ b ∷ []) n h = refl
not_both (a ∷ b ∷ d ∷ ds) n h = ap (λ (t : Bool). (t && b == 120) && are_digits 16 (d ∷ ds)) (ne_eqb a 48 h.short)

pub bounded_is : (v n : ℕ) → bounded v ≡ Ok n → (n ≡ v) × (n < 4294967296)
bounded_is v n h =
    elim (chosen (nat_lt v 4294967296) (Ok v) (Err OutOfRange) (Ok n) h) [
      | inl k ↦ let e : n ≡ v = cc in (e, rw e (ltb-true v 4294967296 k.0))
      | inr k ↦ absurd cc
    ]

pub bounded_again : (v : ℕ) → v < 4294967296 → bounded v ≡ Ok v
bounded_again v h = take_then (nat_lt v 4294967296) (Ok v) (Err OutOfRange) (lt-ltb v 4294967296 h)

pub bounded_above : (v : ℕ) → 4294967296 ≤ v → bounded v ≡ Err OutOfRange
bounded_above v h = take_else (nat_lt v 4294967296) (Ok v) (Err OutOfRange) (le-ltb v 4294967296 h)

abbrev pub read_decimal : List ℕ → Result ℕ ParseKind
read_decimal run = if is_decimal run then bounded (digits_value 10 run) else Err Syntax

-- what a numeral's value is bounded to
pub at_decimal : (run : List ℕ) (n : ℕ) → IsDecimal run n → numeral run ≡ bounded n
at_decimal run n h =
    take_else (is_hexadecimal_number run) (bounded (digits_value 16 (drop 2 run))) (read_decimal run) (not_both run n h)
    ∙ take_then (is_decimal run) (bounded (digits_value 10 run)) (Err Syntax) (is_decimal_again run n h)
    ∙ ap bounded (sym h.value)

pub at_hexadecimal : (run : List ℕ) (n : ℕ) → IsHexadecimal run n → numeral run ≡ bounded n
at_hexadecimal run n h =
    let e : digits_value 16 (drop 2 run) ≡ n = ap (λ (bs : List ℕ). digits_value 16 (drop 2 bs)) h.bytes ∙ sym h.value in
    take_then (is_hexadecimal_number run) (bounded (digits_value 16 (drop 2 run))) (read_decimal run) (is_hexadecimal_again run h.digits h.bytes h.some h.hexadecimal)
    ∙ ap bounded e

pub number_is : (run : List ℕ) (n : ℕ) → 0 < length run → numeral run ≡ Ok n → IsNumeral run n × (n < 4294967296)
number_is run n s h =
    elim (chosen (is_hexadecimal_number run) (bounded (digits_value 16 (drop 2 run))) (read_decimal run) (Ok n) h) [
      | inl j ↦ let b = bounded_is (digits_value 16 (drop 2 run)) n j.1 in (inr (rw b.0 (hexadecimal_is run j.0)), b.1)
      | inr j ↦
          elim (chosen (is_decimal run) (bounded (digits_value 10 run)) (Err Syntax) (Ok n) j.1) [
            | inl k ↦ let b = bounded_is (digits_value 10 run) n k.1 in (inl (rw b.0 (decimal_is run s k.0)), b.1)
            | inr k ↦ absurd cc
          ]
    ]

pub number_again : (run : List ℕ) (n : ℕ) → IsNumeral run n → n < 4294967296 → numeral run ≡ Ok n
number_again run n (inl h) b = at_decimal run n h ∙ bounded_again n b
number_again run n (inr h) b = at_hexadecimal run n h ∙ bounded_again n b
