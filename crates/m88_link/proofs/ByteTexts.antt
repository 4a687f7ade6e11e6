-- Lines of an object text that give bytes: what a line writes, it says, and what it says, it writes.
use Rattle.std.proofs.Common.{◌≡◌, ℕ, ◌+◌, ◌*◌, ◌/◌, ◌%◌, ◌^◌, ◌<◌, Bool, true, false, List, [], ◌∷◌, ◌++◌, length, refl, ap, ◌∙◌, arith}
use Rattle.std.specs.Prelude.{Option, None, Some, ◌&&◌, flat_map, option_map, if◌then◌else◌}
use Rattle.std.specs.Char.{digit_value}
use Rattle.std.specs.List.{AllByRecursion}
use Rattle.std.proofs.lemmas.Bool.Decides.{nat_tests}
use Rattle.std.proofs.lemmas.Option.{option_and_then_some}
use Rattle.m88_base.specs.Hex.{hex_digit, hex2, is_hex_digit}
use Rattle.m88_link.specs.Inside.Rows.{◌>>=◌, byte_by_digits, bytes_by_digits, hex_value}
use Rattle.m88_base.proofs.Laws.{is_other}
use Rattle.m88_base.specs.Cut.{lacks}
use Rattle.m88_link.proofs.RowTexts.{mapped}

is_digit_of : (d : ℕ) → d < 16 → is_hex_digit (hex_digit d) ≡ true
is_digit_of d h = grind (arith, nat_tests)

value_is : (d : ℕ) → d < 16 → digit_value (hex_digit d) ≡ d
value_is d h = grind (arith, nat_tests)

value_read : (d : ℕ) → d < 16 → hex_value (hex_digit d) ≡ Some d
value_read d h = ap (λ (t : Bool). if t then Some (digit_value (hex_digit d)) else None) (is_digit_of d h) ∙ ap Some (value_is d h)

small_value : (b : ℕ) → is_hex_digit b ≡ true → digit_value b < 16
small_value b h = grind (arith, nat_tests)

digit_is : (b : ℕ) → is_hex_digit b ≡ true → b ≡ hex_digit (digit_value b)
digit_is b h = grind (arith, nat_tests)

value_by : (b d v : ℕ) (t : Bool) → (if t then Some v else None) ≡ Some d → (t ≡ true) × (v ≡ d)
value_by b d v true e = (refl, cc)
value_by b d v false e = absurd cc

value_back : (b d : ℕ) → hex_value b ≡ Some d → (b ≡ hex_digit d) × (d < 16)
value_back b d e =
    let k = value_by b d (digit_value b) (is_hex_digit b) e in
    (digit_is b k.0 ∙ ap hex_digit k.1, let small = small_value b k.0 in omega (arith, small, k.1))

byte_read : (n : ℕ) → n < 2 ^ 8 → byte_by_digits (hex_digit (n / 16 % 16)) (hex_digit (n / 1 % 16)) ≡ Some n
unfolding byte_by_digits
byte_read n small =
    let whole : n / 16 % 16 * 16 + n / 1 % 16 ≡ n = omega (arith, small) in
    rw (value_read (n / 16 % 16) (omega arith), value_read (n / 1 % 16) (omega arith)) (ap Some whole)

digits_are : (h l n : ℕ) → h < 16 → l < 16 → h * 16 + l ≡ n → (hex_digit h ∷ hex_digit l ∷ [] ≡ hex2 n) × (n < 2 ^ 8)
digits_are h l n a b e =
    let high : n / 16 % 16 ≡ h = omega (arith, a, b, e) in
    let low : n / 1 % 16 ≡ l = omega (arith, a, b, e) in
    (rw (high, low) refl, omega (arith, a, b, e))

byte_back : (high low n : ℕ) → byte_by_digits high low ≡ Some n → (high ∷ low ∷ [] ≡ hex2 n) × (n < 2 ^ 8)
unfolding byte_by_digits
byte_back high low n e =
    option_and_then_some _ (hex_value high) n e (λ h e1 f1.
    option_and_then_some _ (hex_value low) n f1 (λ l e2 f2.
    let a = value_back high h e1 in
    let b = value_back low l e2 in
    let same : h * 16 + l ≡ n = cc in
    let d = digits_are h l n a.1 b.1 same in
    (ap (λ (x : ℕ). let t : List ℕ = x ∷ low ∷ [] in t) a.0 ∙ ap (λ (x : ℕ). let t : List ℕ = hex_digit h ∷ x ∷ [] in t) b.0 ∙ d.0, d.1)))

-- what was written is read
pub bytes_read : (bs : List ℕ) → AllByRecursion (λ b. b < 2 ^ 8) bs → bytes_by_digits (flat_map hex2 bs) ≡ Some bs
bytes_read [] h = refl
bytes_read (b ∷ bs) h =
    ap (λ o. o >>= λ b. option_map (λ bs. b ∷ bs) (bytes_by_digits (flat_map hex2 bs))) (byte_read b h.0)
    ∙ ap (λ o. option_map (λ bs. b ∷ bs) o) (bytes_read bs h.1)

-- what is read was written
pub bytes_back : (digits bs : List ℕ) → bytes_by_digits digits ≡ Some bs → (digits ≡ flat_map hex2 bs) × AllByRecursion (λ b. b < 2 ^ 8) bs
bytes_back [] [] e = (refl, tt)
bytes_back [] (b ∷ bs) e = absurd (let h : ◌≡◌ {A = Option (List ℕ)} (Some []) (Some (b ∷ bs)) = e in cc)
bytes_back (x ∷ []) bs e = absurd cc
bytes_back (high ∷ low ∷ rest) bs e =
    option_and_then_some _ (byte_by_digits high low) bs e (λ b e1 f1.
    mapped (λ bs. b ∷ bs) (bytes_by_digits rest) bs f1 (λ more e2 same.
    let k = byte_back high low b e1 in
    let l = bytes_back rest more e2 in
    rw (← same) (ap (λ (t : List ℕ). t ++ rest) k.0 ∙ ap (λ (t : List ℕ). hex2 b ++ t) l.0, (k.1, l.1))))

pub length-digits : (bs : List ℕ) → length (flat_map hex2 bs) ≡ 2 * length bs
length-digits [] = refl
length-digits (b ∷ bs) = let ih = length-digits bs in omega (arith, ih)

digit_ends_none : (d : ℕ) → d < 16 → is_other 10 (hex_digit d) ≡ true
digit_ends_none d h = grind (arith, nat_tests)

pub digits_lack : (bs : List ℕ) → lacks 10 (flat_map hex2 bs) ≡ true
digits_lack [] = refl
digits_lack (b ∷ bs) =
    ap (λ (t : Bool). t && (is_other 10 (hex_digit (b / 1 % 16)) && lacks 10 (flat_map hex2 bs))) (digit_ends_none (b / 16 % 16) (omega arith))
    ∙ ap (λ (t : Bool). t && lacks 10 (flat_map hex2 bs)) (digit_ends_none (b / 1 % 16) (omega arith))
    ∙ digits_lack bs
