-- The end of a line by its last token.
use Rattle.std.proofs.Common.{◌≡◌, ℕ, zero, suc, ◌-◌, ◌+◌, List, [], ◌∷◌, length, map, drop, get_or, refl, arith, length-drop, sym, ap, ◌∙◌}
use Rattle.std.proofs.lemmas.List.{length-take-le}
use Rattle.m88_parse.specs.declared.token.Lexeme.{Lexeme}
use Rattle.m88_parse.specs.Inside.Places.{IsCutFrom}
use Rattle.m88_parse.specs.Inside.Tokens.{piece_in, text_in}
use Rattle.m88_parse.specs.Inside.Source.{end_of_line}

-- a token that stands in the line has all its bytes there
text_len : (line : List ℕ) (x : Lexeme) → IsCutFrom line x → length (text_in line x) ≡ x.len
text_len line x h =
    let rest = drop (x.col - 1) line in
    length-take-le x.len rest (omega (arith, length-drop (x.col - 1) line, h.0, h.1))

by_last_text : (line : List ℕ) (xs : List Lexeme) (i : ℕ) (d : Lexeme) → i + 1 ≡ length xs
    → (get_or xs i d).col + length (text_in line (get_or xs i d)) ≡ end_of_line (map (piece_in line) xs)
by_last_text line [] i d e = absurd (omega arith)
by_last_text line (x ∷ []) zero d e = refl
by_last_text line (x ∷ []) (suc i) d e = absurd (omega arith)
by_last_text line (x ∷ y ∷ ys) zero d e = absurd (omega arith)
by_last_text line (x ∷ y ∷ ys) (suc i) d e = by_last_text line (y ∷ ys) i d (omega arith)

pub by_last : (line : List ℕ) (xs : List Lexeme) (i : ℕ) (d : Lexeme) → i + 1 ≡ length xs
    → IsCutFrom line (get_or xs i d) → (get_or xs i d).col + (get_or xs i d).len ≡ end_of_line (map (piece_in line) xs)
by_last line xs i d e h =
    let last = get_or xs i d in
    ap (λ (n : ℕ). last.col + n) (sym (text_len line last h)) ∙ by_last_text line xs i d e
