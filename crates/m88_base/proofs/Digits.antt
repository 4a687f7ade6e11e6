-- Numbers by digits of any count: which texts the tests let through, and what they write.
use Rattle.std.proofs.Common.{◌≡◌, ◌≢◌, Option, ℕ, zero, suc, ◌≤◌, ◌<◌, ◌^◌, List, [], ◌∷◌, Bool, true, false, ◌&&◌, Some, None, length, take, get_or, refl, ap, sym, ◌∙◌, arith, decimal, nat_le}
use Rattle.std.specs.Prelude.{IfSome, if◌then◌else◌}
use Rattle.std.specs.Char.{digit_value, is_digit}
use Rattle.std.specs.List.{list_all}
use Rattle.std.specs.Str.Parse.{AllDigits, digits_value}
use Rattle.std.proofs.lemmas.Bool.Decides.{nat_tests}
use Rattle.std.proofs.lemmas.Bool.{and_parts, le-leb, leb-true, lt-ltb, ltb-true}
use Rattle.std.proofs.lemmas.Fmt.{decimal-digits_value, decimal_digit, decimal_is_IsNumeral, first_decimal}
use Rattle.std.proofs.lemmas.Str.Parse.{IsNumeralModel, digits_value-take-le}
use Rattle.m88_base.specs.Numerals.{is_numeral, number_in, has_no_needless_zero}

abbrev pub are_digits : ℕ → List ℕ → Bool
are_digits base ds = list_all (λ b. is_digit b base) ds

-- the test of digits, and what digits are
pub all_are : (base : ℕ) (ds : List ℕ) → are_digits base ds ≡ true → AllDigits base ds
all_are base [] e = tt
all_are base (d ∷ ds) e = let k = and_parts (is_digit d base) (are_digits base ds) e in (ltb-true (digit_value d) base k.0, all_are base ds k.1)

pub are_all : (base : ℕ) (ds : List ℕ) → AllDigits base ds → are_digits base ds ≡ true
are_all base [] h = refl
are_all base (d ∷ ds) h = ap (λ t. t && are_digits base ds) (lt-ltb (digit_value d) base h.0) ∙ are_all base ds h.1

decimals : IsNumeralModel (λ ds. are_digits 10 ds ≡ true) (digits_value 10)
decimals = record { to = all_are 10; from = are_all 10; same = λ ds h. refl }

-- where the second of two tests fails, nothing is answered
guarded : (a b : Bool) (n : ℕ) → b ≡ false → None ≡ (if a && b then Some n else None)
guarded true b n e = rw e refl
guarded false b n e = refl

-- the digits of a front write no more than all of them
pub front_too_great : (base most i : ℕ) (ds : List ℕ) → 1 ≤ base → most < digits_value base (take i ds) → None ≡ number_in base most ds
front_too_great base most i ds some great =
    let front : digits_value base (take i ds) ≤ digits_value base ds = digits_value-take-le base ds i some in
    let above : most < digits_value base ds = omega arith in
    guarded (is_numeral base ds) (nat_le (digits_value base ds) most) (digits_value base ds) (grind (arith, nat_tests))

-- what is answered of a number is its value
pub value_told : (a b : Bool) (v n : ℕ) → (if a && b then Some v else None) ≡ Some n → (a ≡ true) × (b ≡ true) × (v ≡ n)
value_told true true v n e = (refl, refl, cc)
value_told true false v n e = absurd cc
value_told false b v n e = absurd cc

-- a numeral that is small is told
pub tells : (base most v : ℕ) (text : List ℕ) → 0 < length text → are_digits base text ≡ true → digits_value base text ≡ v → v ≤ most
    → number_in base most text ≡ Some v
tells base most v text some digits e small =
    let least : nat_le 1 (length text) ≡ true = le-leb 1 (length text) some in
    rw (least, digits, e, le-leb v most small) refl

leads : (text : List ℕ) → has_no_needless_zero text ≡ true → get_or text 0 0 ≡ 48 → length text ≡ 1
leads [] needed is = absurd (omega arith)
leads (d ∷ []) needed is = refl
leads (d ∷ c ∷ ds) needed is = absurd (grind (arith, nat_tests))

pub decimal_found : (most : ℕ) (text : List ℕ) (o : Option ℕ) → most < 2 ^ 32 → has_no_needless_zero text ≡ true → o ≡ number_in 10 most text
    → IfSome o (λ n. text ≡ decimal n)
decimal_found most text None small needed e = tt
decimal_found most text (Some n) small needed e =
    let k = value_told (is_numeral 10 text) (nat_le (digits_value 10 text) most) (digits_value 10 text) n (sym e) in
    let l = and_parts (nat_le 1 (length text)) (are_digits 10 text) k.0 in
    let bound : digits_value 10 text ≤ most = leb-true _ _ k.1 in
    sym (decimal-digits_value decimals text l.1 (leb-true 1 (length text) l.0) (leads text needed) (omega arith)) ∙ ap decimal k.2

-- the decimal digits of a number have no needless zero
pub decimal_leads : (n : ℕ) → n < 2 ^ 64 → get_or (decimal n) 0 0 ≡ 48 → length (decimal n) ≡ 1
decimal_leads zero small e = ap length (decimal_digit 0 (omega arith))
decimal_leads (suc n) small e = let first = first_decimal (suc n) (omega arith) small in absurd (omega arith)

unneeded : (text : List ℕ) → 0 < length text → (get_or text 0 0 ≡ 48 → length text ≡ 1) → has_no_needless_zero text ≡ true
unneeded [] some first = absurd (omega arith)
unneeded (d ∷ []) some first = refl
unneeded (d ∷ c ∷ ds) some first = let no : d ≢ 48 = λ is. omega (arith, first is) in grind (arith, nat_tests)

pub decimal_needed : (n : ℕ) → n < 2 ^ 64 → has_no_needless_zero (decimal n) ≡ true
decimal_needed n small = unneeded (decimal n) (decimal_is_IsNumeral n small).0.0 (decimal_leads n small)

pub decimal_told : (most n : ℕ) → most < 2 ^ 32 → n ≤ most → number_in 10 most (decimal n) ≡ Some n
decimal_told most n small below =
    let k = decimal_is_IsNumeral n (omega arith) in
    tells 10 most n (decimal n) k.0.0 (are_all 10 (decimal n) k.0.1) k.1 below
