-- The tokens of a line that is not too long have columns below 2^32, and texts of bytes.
use Rattle.std.proofs.Common.{◌≡◌, ℕ, suc, ◌+◌, ◌<◌, ◌≤◌, ◌^◌, ◌==◌, ◌&&◌, ◌||◌, Bool, true, false, cond, List, [], ◌∷◌, ◌++◌, length, refl, ap, ◌∙◌, subst, arith, length-append}
use Rattle.std.specs.List.{AllByRecursion}
use Rattle.std.proofs.lemmas.Bool.{eqb-true}
use Rattle.std.proofs.lemmas.Bool.Decides.{nat_tests}
use Rattle.m88_base.specs.Lines.{begins_with_lf, carriage_return, line_feed, lines_of, on_first_line}
use Rattle.m88_parse.specs.Language.Bytes.{double_quote, escape_value, is_escape, is_plain}
use Rattle.m88_parse.specs.Language.Pieces.{Piece, a_text}
use Rattle.m88_parse.specs.Language.Tokens.{AreTokens, Holds, IsToken}
use Rattle.m88_parse.specs.Language.Tokens as token

-- bytes that are below 2^8
abbrev pub AreSmall : List ℕ → Type 0
AreSmall bytes = AllByRecursion (λ b. b < 2 ^ 8) bytes

-- a token in such a line
pub record IsInLine (p : Piece) : Type 0 where
  pub col : p.col < 2 ^ 32
  pub text : (bytes : List ℕ) → p.says ≡ a_text bytes → AreSmall bytes

-- what a byte or an escape of a text stands for is a byte
plain_small : (b : ℕ) → is_plain b ≡ true → b < 2 ^ 8
plain_small b h = grind (arith, nat_tests)

by_test : {P : Type 0} (s t : Bool) → (s ≡ true → P) → (t ≡ true → P) → (s || t) ≡ true → P
by_test true t first second h = first refl
by_test false t first second h = second h

letter_small : (b : ℕ) → is_escape b ≡ true → b < 2 ^ 8
letter_small b h =
    by_test (b == 110) _ (λ t. omega (arith, eqb-true b 110 t))
    (by_test (b == 116) _ (λ t. omega (arith, eqb-true b 116 t))
    (by_test (b == 48) _ (λ t. omega (arith, eqb-true b 48 t))
    (by_test (b == 92) _ (λ t. omega (arith, eqb-true b 92 t))
    (by_test (b == 34) _ (λ t. omega (arith, eqb-true b 34 t))
    (by_test (b == 39) _ (λ t. omega (arith, eqb-true b 39 t)) (λ e. absurd cc)))))) h

either_small : (t : Bool) (x y : ℕ) → x < 2 ^ 8 → y < 2 ^ 8 → cond t x y < 2 ^ 8
either_small true x y h k = h
either_small false x y h k = k

escape_small : (b : ℕ) → is_escape b ≡ true → escape_value b < 2 ^ 8
escape_small b h =
    either_small (b == 110) 10 _ (omega arith)
    (either_small (b == 116) 9 _ (omega arith) (either_small (b == 48) 0 b (omega arith) (letter_small b h)))

text_small : (quote : ℕ) (inside bytes : List ℕ) → Holds quote inside bytes → AreSmall bytes
text_small quote _ _ token.nothing = tt
text_small quote _ _ (token.itself {b = b} {inside = inside} {bytes = bytes} plain mark end rest) =
    (plain_small b plain, text_small quote inside bytes rest)
text_small quote _ _ (token.escape {e = e} {inside = inside} {bytes = bytes} is rest) =
    (escape_small e is, text_small quote inside bytes rest)

token_text : (p : Piece) → IsToken p.text p.says → (bytes : List ℕ) → p.says ≡ a_text bytes → AreSmall bytes
token_text p is bytes e =
    let quoted : IsToken p.text (a_text bytes) = subst (IsToken p.text) e is in
    text_small double_quote quoted.inside bytes quoted.holds

-- the tokens of a line
pub tokens_in_line : (col : ℕ) (line : List ℕ) (ps : List Piece) → col + length line < 2 ^ 32 → AreTokens col line ps
    → AllByRecursion IsInLine ps
tokens_in_line col line [] short h = tt
tokens_in_line col line (p ∷ ps) short (rest, begins, more) =
    let size : length line ≡ length begins.gap + (length p.text + length rest) =
    ap length begins.bytes_are ∙ length-append begins.gap (p.text ++ rest) ∙ ap (λ n. length begins.gap + n)
    (length-append p.text rest) in
    let place = begins.place in (
      record { col = omega (arith, size, place, short); text = token_text p begins.token },
      tokens_in_line (p.col + length p.text) rest ps (omega (arith, size, place, short)) more,
    )

-- the lines of a text are no longer than it
abbrev pub AreShort : ℕ → List (List ℕ) → Type 0
AreShort n lines = AllByRecursion (λ (line : List ℕ). length line ≤ n) lines

shorter : (m n : ℕ) (lines : List (List ℕ)) → m ≤ n → AreShort m lines → AreShort n lines
shorter m n [] h k = tt
shorter m n (line ∷ lines) h k = (omega (arith, h, k.0), shorter m n lines h k.1)

first_short : (b n : ℕ) (lines : List (List ℕ)) → AreShort n lines → AreShort (suc n) (on_first_line b lines)
first_short b n [] h = (omega arith, tt)
first_short b n (line ∷ lines) h = (omega (arith, h.0), shorter n (suc n) lines (omega arith) h.1)

either_short : (t : Bool) (n : ℕ) (xs ys : List (List ℕ)) → AreShort n xs → AreShort n ys → AreShort n (cond t xs ys)
either_short true n xs ys h k = h
either_short false n xs ys h k = k

pub lines_short : (bytes : List ℕ) → AreShort (length bytes) (lines_of bytes)
unfolding lines_of
lines_short [] = tt
lines_short (b ∷ bs) =
    let rest = shorter (length bs) (suc (length bs)) (lines_of bs) (omega arith) (lines_short bs) in
    either_short (b == line_feed) (suc (length bs)) ([] ∷ lines_of bs) _ (omega arith, rest)
    (either_short (b == carriage_return && begins_with_lf bs) (suc (length bs)) (lines_of bs)
    (on_first_line b (lines_of bs)) rest
    (first_short b (length bs) (lines_of bs) (lines_short bs)))
