-- The text of a line from its number on.
use Rattle.std.specs.Prelude.{ℕ, Bool, true, false, List, [], ◌∷◌, ◌++◌, ◌≡◌, ◌≤◌, ◌<◌, ◌%◌, ◌/◌, ◌==◌, codes, decimal, length, if◌then◌else◌}
use Rattle.std.proofs.Common.{arith, append_assoc, refl, sym, ap, ap₂, ◌∙◌}
use Rattle.std.proofs.lemmas.Bool.Decides.{nat_tests}
use Rattle.std.proofs.lemmas.List.{append-nil}
use Rattle.std.specs.Fmt.{digit_glyph, digits}
use Rattle.m88_base.specs.Hex.{hex8, hex_digit}
use Rattle.m88_base.specs.Lines.{line_end}
use Rattle.m88_isa.specs.declared.planned.Access.{Access}
use Rattle.m88_trace.specs.Lines.{access_head, head_text}

-- below 10 the digits of both bases are the same
same_digit : (n : ℕ) → n < 10 → hex_digit (n % 16) ≡ digit_glyph false (n % 10)
same_digit n h =
    let s : n % 16 ≡ n = omega arith in
    let t : n % 10 ≡ n = omega arith in
    rw (s, t) (grind (arith, nat_tests))

-- a number below 32 has one digit or two
pub one_digit : (n : ℕ) → n < 10 → hex_digit (n % 16) ∷ [] ≡ decimal n
unfolding digits
one_digit n h =
    let none : n / 10 ≡ 0 = omega arith in
    rw none (ap (λ (d : ℕ). d ∷ []) (same_digit n h))

pub two_digits : (n : ℕ) → 10 ≤ n → n < 32 → hex_digit (n / 10 % 16) ∷ hex_digit (n % 10 % 16) ∷ [] ≡ decimal n
unfolding digits
two_digits n h g =
    let more : (n / 10 == 0) ≡ false = grind (arith, nat_tests) in
    let none : n / 10 / 10 ≡ 0 = omega arith in
    let last : n % 10 % 10 ≡ n % 10 = omega arith in
    rw (more, none) (ap₂ (λ (d e : ℕ). d ∷ e ∷ []) (same_digit (n / 10) (omega arith))
    (same_digit (n % 10) (omega arith) ∙ ap (digit_glyph false) last))

-- what stands behind a number
behind : (d a b c e f : List ℕ) → d ++ (a ++ b ++ c ++ e ++ f) ≡ d ++ a ++ b ++ c ++ e ++ f
behind d a b c e f =
    sym (ap (λ (xs : List ℕ). xs ++ c ++ e ++ f) (append_assoc d a b)
    ∙ ap (λ (xs : List ℕ). xs ++ e ++ f) (append_assoc d (a ++ b) c)
    ∙ ap (λ (xs : List ℕ). xs ++ f) (append_assoc d (a ++ b ++ c) e)
    ∙ append_assoc d (a ++ b ++ c ++ e) f)

pub head_is : (number at word : ℕ) → decimal number ++ (codes " " ++ hex8 at ++ codes " " ++ hex8 word)
    ≡ head_text number at word
unfolding head_text
head_is number at word =
    sym (ap (λ (xs : List ℕ). xs ++ codes " " ++ hex8 word) (append_assoc (decimal number) (codes " ") (hex8 at))
    ∙ ap (λ (xs : List ℕ). xs ++ hex8 word) (append_assoc (decimal number) (codes " " ++ hex8 at) (codes " "))
    ∙ append_assoc (decimal number) (codes " " ++ hex8 at ++ codes " ") (hex8 word))

-- and behind the head of a line
pub line_is : (number at word : ℕ) (written : List ℕ) →
    decimal number ++ (codes " " ++ hex8 at ++ codes " " ++ hex8 word ++ (written ++ line_end))
    ≡ head_text number at word ++ written ++ line_end
unfolding head_text
line_is number at word written =
    behind (decimal number) (codes " ") (hex8 at) (codes " ") (hex8 word) (written ++ line_end)
    ∙ sym (append_assoc (head_text number at word) written line_end)

pub begun_is : (number at word : ℕ) (access : List ℕ) →
    decimal number ++ (codes " " ++ hex8 at ++ codes " " ++ hex8 word ++ access)
    ≡ head_text number at word ++ [] ++ access
unfolding head_text
begun_is number at word access =
    behind (decimal number) (codes " ") (hex8 at) (codes " ") (hex8 word) access
    ∙ ap (λ (xs : List ℕ). xs ++ access) (sym (append-nil (head_text number at word)))

-- an access has 14 bytes up to its datum
head_long : (write : Bool) (addr en : ℕ) →
    length ((if write then codes " s " else codes " l ")
    ++ hex8 addr ++ codes " " ++ (hex_digit en ∷ []) ++ codes " ")
    ≡ 14
head_long true addr en = refl
head_long false addr en = refl

pub head_length : (a : Access) → length (access_head a) ≡ 14
unfolding access_head
head_length a = head_long a.write a.addr a.en
