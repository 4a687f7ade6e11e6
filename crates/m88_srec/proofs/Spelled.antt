-- Bytes written in digits and read again, and the lines of a text that was put together of lines.
use Rattle.std.proofs.Common.{◌≡◌, ℕ, ◌+◌, ◌*◌, ◌/◌, ◌%◌, ◌<◌, ◌≤◌, true, false, List, [], ◌∷◌, ◌++◌, refl, ap, ◌∙◌, append_assoc, lt-ltb, arith}
use Rattle.std.specs.Prelude.{nat_lt, ◌==◌}
use Rattle.std.specs.Char.{digit_value, is_digit}
use Rattle.std.specs.List.{flat_map}
use Rattle.std.proofs.lemmas.Bool.Decides.{nat_tests}
use Rattle.m88_base.specs.Hex.{hex2, hex_digit}
use Rattle.m88_base.specs.Lines.{lines_of, text_of_lines}
use Rattle.m88_base.specs.Lines.{line_end}
use Rattle.m88_base.proofs.Laws.{AreBytes}
use Rattle.m88_srec.specs.Records.{are_more_pairs, bytes_in}
use Rattle.m88_srec.proofs.Cases.{by_bool}

-- the value of a digit that is written
value_of_digit : (d : ℕ) → d < 16 → digit_value (hex_digit d) ≡ d
value_of_digit d h =
    by_bool (nat_lt d 10)
    (λ low. grind (arith, nat_tests))
    (λ high. grind (arith, nat_tests))

below_16 : (n : ℕ) → n % 16 < 16
below_16 n = omega arith

is_hex : (d : ℕ) → d < 16 → is_digit (hex_digit d) 16 ≡ true
is_hex d h = let e = value_of_digit d h in rw e (lt-ltb d 16 h)

-- bytes in digits are pairs
pub pairs_of_bytes : (bs : List ℕ) → are_more_pairs (flat_map hex2 bs) ≡ true
pairs_of_bytes [] = refl
pairs_of_bytes (b ∷ bs) =
    rw (is_hex (b / 16 % 16) (below_16 (b / 16)), is_hex (b / 1 % 16) (below_16 (b / 1))) (pairs_of_bytes bs)

-- and are read as these bytes
pub bytes_of_digits : (bs : List ℕ) → AreBytes bs → bytes_in (flat_map hex2 bs) ≡ bs
bytes_of_digits [] h = refl
bytes_of_digits (b ∷ bs) h =
    let high = value_of_digit (b / 16 % 16) (below_16 (b / 16)) in
    let low = value_of_digit (b / 1 % 16) (below_16 (b / 1)) in
    let small : b < 256 = h.0 in
    let whole : digit_value (hex_digit (b / 16 % 16)) * 16 + digit_value (hex_digit (b / 1 % 16)) ≡ b =
    rw (high, low) (omega arith) in
    ap (λ (n : ℕ). let xs : List ℕ = n ∷ bytes_in (flat_map hex2 bs) in xs) whole
    ∙ ap (λ (xs : List ℕ). let ys : List ℕ = b ∷ xs in ys) (bytes_of_digits bs h.1)

-- bytes that are no line end
abbrev pub AreInner : List ℕ → Type 0
AreInner [] = Unit {0}
AreInner (b ∷ bs) = (48 ≤ b) × AreInner bs

digit_is_inner : (d : ℕ) → 48 ≤ hex_digit d
digit_is_inner d =
    by_bool (nat_lt d 10)
    (λ low. rw low (omega arith))
    (λ high. rw high (omega arith))

pub digits_are_inner : (bs : List ℕ) → AreInner (flat_map hex2 bs)
digits_are_inner [] = tt
digits_are_inner (b ∷ bs) = (digit_is_inner (b / 16 % 16), (digit_is_inner (b / 1 % 16), digits_are_inner bs))

-- a line in front of others
front_line : (line rest : List ℕ) → AreInner line → lines_of (line ++ 10 ∷ rest) ≡ line ∷ lines_of rest
unfolding lines_of
front_line [] rest inner = refl
front_line (b ∷ bs) rest inner =
    let high : 48 ≤ b = inner.0 in
    let no_lf : (b == 10) ≡ false = grind (arith, nat_tests) in
    let no_cr : (b == 13) ≡ false = grind (arith, nat_tests) in
    rw (no_lf, no_cr, front_line bs rest inner.1) refl

abbrev pub AllInner : List (List ℕ) → Type 0
AllInner [] = Unit {0}
AllInner (line ∷ lines) = AreInner line × AllInner lines

-- the lines of a text that was put together of lines
pub lines_of_text : (lines : List (List ℕ)) → AllInner lines → lines_of (text_of_lines lines) ≡ lines
unfolding lines_of
lines_of_text [] inner = refl
lines_of_text (line ∷ lines) inner =
    ap lines_of (append_assoc line line_end (text_of_lines lines))
    ∙ front_line line (text_of_lines lines) inner.0
    ∙ ap (λ (ls : List (List ℕ)). let all : List (List ℕ) = line ∷ ls in all) (lines_of_text lines inner.1)
