-- Tokens cut off one after the other, as a loop does.
use Rattle.std.proofs.Common.{◌≡◌, ℕ, zero, suc, ◌-◌, ◌+◌, ◌≤◌, ◌<◌, List, [], ◌∷◌, ◌++◌, length, map, get_or, take, drop, Some, None, Result, Ok, Err, refl, sym, ap, ap₂, subst, ◌∙◌, append_assoc, take_all, arith}
use Rattle.std.proofs.lemmas.List.{append-nil, drop-drop, map_push, take_more}
use Rattle.m88_parse.proofs.FrontBytes.{run_taken}
use Rattle.m88_parse.specs.declared.token.Lexeme.{Lexeme}
use Rattle.m88_parse.specs.declared.token.Token.{Token}
use Rattle.m88_parse.specs.Language.Pieces.{IsSlice, IsTokenOf, PlainToken, plain_token, token_of, TokenValue, Piece}
use Rattle.m88_parse.specs.declared.fault.ParseFault.{ParseFault}
use Rattle.m88_parse.specs.declared.scan.Flaw.{Flaw}
use Rattle.m88_parse.specs.Inside.Tokens.{piece_in, text_in, Cut, front, pieces_from, pieces_of, prepend, fault_at, tokens_from, tokens_of}

-- what was cut off before, and what is still cut
abbrev pub with_front : List Piece → Result (List Piece) ParseFault → Result (List Piece) ParseFault
with_front done (Ok ps) = Ok (done ++ ps)
with_front done (Err e) = Err e

skipped : (line k col : ℕ) (bs : List ℕ) → pieces_from line k col bs ≡ pieces_from line 0 (col + k) (drop k bs)
unfolding pieces_from
skipped line zero col bs = let e : col ≡ col + 0 = omega arith in ap (λ (n : ℕ). pieces_from line 0 n bs) e
skipped line (suc k) col [] = refl
skipped line (suc k) col (b ∷ bs) =
    let e : col + 1 + k ≡ col + suc k = omega arith in
    skipped line k (col + 1) bs ∙ ap (λ (n : ℕ). pieces_from line 0 n (drop k bs)) e

one_step : (line col b len : ℕ) (bs : List ℕ) → 0 < len → pieces_from line (len - 1) (col + 1) bs ≡ pieces_from line 0 (col + len) (drop len (b ∷ bs))
one_step line col b zero bs h = absurd (omega arith)
one_step line col b (suc k) bs h =
    let e : suc k - 1 ≡ k = omega arith in
    let f : col + 1 + k ≡ col + suc k = omega arith in
    ap (λ (n : ℕ). pieces_from line n (col + 1) bs) e ∙ skipped line k (col + 1) bs ∙ ap (λ (n : ℕ). pieces_from line 0 n (drop k bs)) f

-- a line by what its front is
abbrev at_front : ℕ → ℕ → ℕ → List ℕ → Result Cut Flaw → Result (List Piece) ParseFault
at_front line col b bs r = elim r [
  | Ok c ↦ prepend c.says col (take c.len (b ∷ bs)) (pieces_from line (c.len - 1) (col + 1) bs)
  | Err f ↦ Err (fault_at line col f)
]

pub cut_off : (line col : ℕ) (bs : List ℕ) (c : Cut) → 0 < length bs → front bs ≡ Ok c → 0 < c.len
    → pieces_from line 0 col bs ≡ prepend c.says col (take c.len bs) (pieces_from line 0 (col + c.len) (drop c.len bs))
unfolding pieces_from
cut_off line col [] c h e k = absurd (omega arith)
cut_off line col (b ∷ bs) c h e k =
    ap (at_front line col b bs) e ∙ ap (prepend c.says col (take c.len (b ∷ bs))) (one_step line col b c.len bs k)

pub fault_front : (line col : ℕ) (bs : List ℕ) (f : Flaw) → 0 < length bs → front bs ≡ Err f → pieces_from line 0 col bs ≡ Err (fault_at line col f)
unfolding pieces_from
fault_front line col [] f h e = absurd (omega arith)
fault_front line col (b ∷ bs) f h e = ap (at_front line col b bs) e

regroup : (done : List Piece) (p : Piece) (rest : Result (List Piece) ParseFault) → with_front done (prepend (Some p.says) p.col p.text rest) ≡ with_front (done ++ p ∷ []) rest
regroup done p (Ok ps) = ap (λ (xs : List Piece). let r : Result (List Piece) ParseFault = Ok xs in r) (simp append_assoc)
regroup done p (Err e) = refl

pub gap_goes_on : (line col len : ℕ) (bs : List ℕ) (done : List Piece) (total : Result (List Piece) ParseFault) → 0 < length bs → front bs ≡ Ok (record { len = len; says = None }) → 0 < len
    → with_front done (pieces_from line 0 col bs) ≡ total → with_front done (pieces_from line 0 (col + len) (drop len bs)) ≡ total
gap_goes_on line col len bs done total h e k so_far = ap (with_front done) (sym (cut_off line col bs (record { len = len; says = None }) h e k)) ∙ so_far

pub token_goes_on : (line col len : ℕ) (m : TokenValue) (bs : List ℕ) (done : List Piece) (total : Result (List Piece) ParseFault) → 0 < length bs → front bs ≡ Ok (record { len = len; says = Some m }) → 0 < len
    → with_front done (pieces_from line 0 col bs) ≡ total → with_front (done ++ record { text = take len bs; col = col; says = m } ∷ []) (pieces_from line 0 (col + len) (drop len bs)) ≡ total
token_goes_on line col len m bs done total h e k so_far =
    let rest = pieces_from line 0 (col + len) (drop len bs) in
    sym (regroup done (record { text = take len bs; col = col; says = m }) rest) ∙ ap (with_front done) (sym (cut_off line col bs (record { len = len; says = Some m }) h e k)) ∙ so_far

pub ends : (line col : ℕ) (bs : List ℕ) (f : Flaw) (done : List Piece) (total : Result (List Piece) ParseFault) → 0 < length bs → front bs ≡ Err f
    → with_front done (pieces_from line 0 col bs) ≡ total → total ≡ Err (fault_at line col f)
ends line col bs f done total h e so_far = sym so_far ∙ ap (with_front done) (fault_front line col bs f h e)

pub is_done : (line col : ℕ) (bs : List ℕ) (done : List Piece) (total : Result (List Piece) ParseFault) → length bs ≡ 0
    → with_front done (pieces_from line 0 col bs) ≡ total → total ≡ Ok done
unfolding pieces_from
is_done line col [] done total h so_far = sym so_far ∙ ap (λ (xs : List Piece). let r : Result (List Piece) ParseFault = Ok xs in r) (append-nil done)
is_done line col (b ∷ bs) done total h so_far = absurd (omega arith)

pub rest_goes_on : (line rest after : List ℕ) (col len : ℕ) → 1 ≤ col → rest ≡ drop (col - 1) line
    → after ≡ drop len rest → after ≡ drop (col + len - 1) line
rest_goes_on line rest after col len from_one here back =
    let e : col - 1 + len ≡ col + len - 1 = omega arith in
    back ∙ ap (drop len) here ∙ drop-drop len (col - 1) line ∙ ap (λ (n : ℕ). drop n line) e

-- a token of the code has the bytes of its line at its column
text_placed : (line : List ℕ) (x : Lexeme) → IsSlice line (text_in line x) x.col
text_placed line x = sym (run_taken x.len (drop (x.col - 1) line))

pub token_placed : (line : List ℕ) (x : Lexeme) (t : Token) (n : ℕ) → plain_token t ≡ token_of n (piece_in line x)
    → IsTokenOf line t
token_placed line x t n h =
    let e : t.text.now ≡ text_in line x = ap (λ (p : PlainToken). p.text) h in
    let f : t.col ≡ x.col = ap (λ (p : PlainToken). p.col) h in
    subst (λ (bs : List ℕ). IsSlice line bs t.col) (sym e)
    (subst (λ (col : ℕ). IsSlice line (text_in line x) col) (sym f) (text_placed line x))

-- the tokens of the public call for tokens of the code
abbrev pub plain_tokens : ℕ → List ℕ → List Lexeme → List PlainToken
plain_tokens n line xs = map (token_of n) (map (piece_in line) xs)

-- a token more for the lexeme that it was made of
pub tokens_more : (line : List ℕ) (xs : List Lexeme) (ts new : List Token) (t : Token) (n i : ℕ) (d : Lexeme)
    → i < length xs → new ≡ ts ++ t ∷ [] → plain_token t ≡ token_of n (piece_in line (get_or xs i d))
    → map plain_token ts ≡ plain_tokens n line (take i xs) → map plain_token new ≡ plain_tokens n line (take (i + 1) xs)
tokens_more line xs ts new t n i d l e k so_far =
    let x = get_or xs i d in
    ap (map plain_token) e ∙ map_push plain_token ts t
    ∙ ap₂ (λ (ps : List PlainToken) (p : PlainToken). ps ++ p ∷ []) so_far k
    ∙ sym (
    ap (plain_tokens n line) (take_more xs i d l) ∙ ap (map (token_of n)) (map_push (piece_in line) (take i xs) x)
    ∙ map_push (token_of n) (map (piece_in line) (take i xs)) (piece_in line x))

-- a token for each lexeme
pub tokens_done : (n : ℕ) (line : List ℕ) (xs items : List Lexeme) (ts : List Token) (i : ℕ)
    → pieces_of n line ≡ Ok (map (piece_in line) xs) → items ≡ xs → length items ≤ i
    → map plain_token ts ≡ plain_tokens n line (take i items) → tokens_of n line ≡ Ok (map plain_token ts)
tokens_done n line xs items ts i c e l so_far =
    let answer : List PlainToken → Result (List PlainToken) ParseFault = λ ps. Ok ps in
    ap (tokens_from n) c ∙ ap answer (sym (so_far ∙ ap (plain_tokens n line) (take_all i items l ∙ e)))
