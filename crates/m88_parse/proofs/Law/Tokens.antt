-- The law of tokens: a line is cut into exactly the tokens that it is related to.
use Rattle.std.proofs.Common.{◌≡◌, ℕ, zero, suc, ◌+◌, ◌<◌, ◌≤◌, Bool, true, ◌&&◌, inl, inr, List, [], ◌∷◌, ◌++◌, length, take, drop, Option, Some, None, Ok, Err, refl, sym, ap, ◌∙◌, arith, subst, ap₂, Result, length-take, length-drop, length-append, take-append-drop}
use Rattle.std.specs.List.{list_all}
use Rattle.std.proofs.Math.Seq.{take-append_seam, drop-append_seam, drop-length}
use Rattle.m88_parse.specs.declared.fault.ParseFault.{ParseFault}
use Rattle.m88_parse.specs.declared.scan.Flaw.{Flaw}
use Rattle.m88_parse.specs.Inside.Tokens.{Cut, front, prepend, fault_at, pieces_from, pieces_of}
use Rattle.m88_parse.specs.Language.Bytes.{is_blank, is_comment}
use Rattle.m88_parse.specs.Language.Pieces.{TokenValue, a_name, a_number, a_text, a_mark, Piece}
use Rattle.m88_base.specs.Name.{IsName}
use Rattle.m88_parse.specs.Language.Tokens.{Begins, IsNumeral, IsGap, IsTail, AreNameBytes, BeginsWithNoNameByte, IsToken, AreTokens, LineTokens}
use Rattle.m88_parse.proofs.CuttingTokens.{cut_off, fault_front}
use Rattle.m88_parse.proofs.Law.TestsAndChoices.{both}
use Rattle.m88_parse.proofs.Law.FirstToken.{front_again, front_blank, front_comment, TokenAt, Stands, comment_stands, blank_stands, token_stands, front_stands}

-- what is related is read

pub gap_passed : (line col : ℕ) (bs rest : List ℕ) → IsGap bs → pieces_from line 0 col (bs ++ rest) ≡ pieces_from line 0 (col + length bs) rest
gap_passed line col [] rest h = let e : col ≡ col + 0 = omega arith in ap (λ (n : ℕ). pieces_from line 0 n rest) e
gap_passed line col (b ∷ bs) rest h =
    let k = both (is_blank b) (list_all is_blank bs) h in
    let e : col + 1 + length bs ≡ col + suc (length bs) = omega arith in
    cut_off line col (b ∷ (bs ++ rest)) (record { len = 1; says = None }) (omega arith) (front_blank b (bs ++ rest) k.0) (omega arith)
    ∙ gap_passed line (col + 1) bs rest k.1
    ∙ ap (λ (n : ℕ). pieces_from line 0 n rest) e

pub nothing_left : (line col : ℕ) → pieces_from line 0 col [] ≡ Ok []
unfolding pieces_from
nothing_left line col = refl

tail_passed : (line col : ℕ) (bs : List ℕ) → IsTail bs → pieces_from line 0 col bs ≡ Ok []
tail_passed line col [] h = nothing_left line col
tail_passed line col (b ∷ bs) h =
    cut_off line col (b ∷ bs) (record { len = suc (length bs); says = None }) (omega arith) (front_comment b bs h) (omega arith)
    ∙ ap (pieces_from line 0 (col + suc (length bs))) (drop-length (b ∷ bs))
    ∙ nothing_left line (col + suc (length bs))

no_numeral : (n : ℕ) → IsNumeral [] n → ⊥
no_numeral n (inl h) = let s = h.some in omega arith
no_numeral n (inr h) = let e = h.bytes in cc

some_bytes : (text : List ℕ) (m : TokenValue) → IsToken text m → 0 < length text
some_bytes [] (a_name name) h = let e : IsName [] = subst IsName (sym h.0) h.1 in absurd e
some_bytes [] (a_number n) (inl h) = absurd (no_numeral n h.0)
some_bytes [] (a_number n) (inr h) = let e = h.text_is in absurd cc
some_bytes [] (a_text bytes) h = let e = h.text_is in absurd cc
some_bytes [] (a_mark m) h = let e = h.0 in absurd cc
some_bytes (b ∷ bs) m h = omega arith

pub token_passed : (line col : ℕ) (text rest : List ℕ) (m : TokenValue) → IsToken text m → (AreNameBytes text → BeginsWithNoNameByte rest)
    → pieces_from line 0 col (text ++ rest) ≡ prepend (Some m) col text (pieces_from line 0 (col + length text) rest)
token_passed line col text rest m h k =
    let s = some_bytes text m h in
    cut_off line col (text ++ rest) (record { len = length text; says = Some m }) (omega (arith, s, length-append text rest)) (front_again text rest m h k) s
    ∙ ap₂ (λ (t r : List ℕ). prepend (Some m) col t (pieces_from line 0 (col + length text) r)) (take-append_seam text rest) (drop-append_seam text rest)

pub tokens_read : (line col : ℕ) (bytes : List ℕ) (ps : List Piece) → AreTokens col bytes ps → pieces_from line 0 col bytes ≡ Ok ps
tokens_read line col bytes [] h =
    ap (pieces_from line 0 col) h.bytes_are ∙ gap_passed line col h.gap h.tail h.blank ∙ tail_passed line (col + length h.gap) h.tail h.comment
tokens_read line col bytes (p ∷ ps) h =
    let b = h.1 in
    let ih = tokens_read line (p.col + length p.text) h.0 ps h.2 in
    ap (pieces_from line 0 col) b.bytes_are
    ∙ gap_passed line col b.gap (p.text ++ h.0) b.blank
    ∙ ap (λ (n : ℕ). pieces_from line 0 n (p.text ++ h.0)) (sym b.place)
    ∙ token_passed line p.col p.text h.0 p.says b.token b.longest
    ∙ ap (prepend (Some p.says) p.col p.text) ih

-- what is read is related

prepended : (m : TokenValue) (col : ℕ) (text : List ℕ) (r : Result (List Piece) ParseFault) (ps : List Piece) → prepend (Some m) col text r ≡ Ok ps
    → (qs : List Piece) × (r ≡ Ok qs) × (record { text = text; col = col; says = m } ∷ qs ≡ ps)
prepended m col text (Ok qs) ps h = (qs, refl, cc)
prepended m col text (Err f) ps h = absurd cc

-- a blank more before a token, and a token at the very front

pub blank_begins : (col b : ℕ) (bs : List ℕ) (p : Piece) (rest : List ℕ) → is_blank b ≡ true → Begins (col + 1) bs p rest → Begins col (b ∷ bs) p rest
blank_begins col b bs p rest w x = record {
  gap = b ∷ x.gap;
  bytes_are = ap (λ (xs : List ℕ). b ∷ xs) x.bytes_are;
  blank = ap (λ (t : Bool). t && list_all is_blank x.gap) w ∙ x.blank;
  place = omega (arith, x.place);
  token = x.token;
  longest = x.longest;
}

pub token_begins : (col : ℕ) (bytes : List ℕ) (c : Cut) (t : TokenAt bytes c) → Begins col bytes (record { text = take c.len bytes; col = col; says = t.meaning }) (drop c.len bytes)
token_begins col bytes c t = record { gap = []; bytes_are = sym (take-append-drop c.len bytes); blank = refl; place = omega arith; token = t.token; longest = t.longest }

blank_before : (col b : ℕ) (bs : List ℕ) (ps : List Piece) → is_blank b ≡ true → AreTokens (col + 1) bs ps → AreTokens col (b ∷ bs) ps
blank_before col b bs [] w h = record {
  gap = b ∷ h.gap;
  tail = h.tail;
  bytes_are = ap (λ (xs : List ℕ). b ∷ xs) h.bytes_are;
  blank = ap (λ (t : Bool). t && list_all is_blank h.gap) w ∙ h.blank;
  comment = h.comment;
}
blank_before col b bs (p ∷ ps) w h = (h.0, blank_begins col b bs p h.0 w h.1, h.2)

-- one step of a line that isn't empty
abbrev Related : ℕ → ℕ → Type 0
Related fuel line = (col : ℕ) (bytes : List ℕ) (ps : List Piece) → length bytes ≤ fuel → pieces_from line 0 col bytes ≡ Ok ps → AreTokens col bytes ps

comment_alone : (col b : ℕ) (bs : List ℕ) (ps : List Piece) → is_comment b ≡ true → [] ≡ ps → AreTokens col (b ∷ bs) ps
comment_alone col b bs ps h e = subst (AreTokens col (b ∷ bs)) e (record { gap = []; tail = b ∷ bs; bytes_are = refl; blank = refl; comment = h })

token_first : (fuel line col : ℕ) (bytes : List ℕ) (c : Cut) (ps : List Piece) → Related fuel line → length bytes ≤ suc fuel → TokenAt bytes c
    → prepend c.says col (take c.len bytes) (pieces_from line 0 (col + c.len) (drop c.len bytes)) ≡ Ok ps → AreTokens col bytes ps
token_first fuel line col bytes c ps ih s t h =
    let rest = pieces_from line 0 (col + c.len) (drop c.len bytes) in
    let q = prepended t.meaning col (take c.len bytes) rest ps (ap (λ (o : Option TokenValue). prepend o col (take c.len bytes) rest) (sym t.says) ∙ h) in
    let some = t.some in
    let fits = t.fits in
    let shorter : length (drop c.len bytes) ≤ fuel = omega (arith, length-drop c.len bytes) in
    let l : length (take c.len bytes) ≡ c.len = omega (arith, length-take c.len bytes) in
    let after = ih (col + c.len) (drop c.len bytes) q.0 shorter q.1 in
    subst (AreTokens col bytes) q.2 (
      drop c.len bytes,
      token_begins col bytes c t,
      subst (λ (n : ℕ). AreTokens (col + n) (drop c.len bytes) q.0) (sym l) after,
    )

pub same_pieces : {a b : List Piece} → ◌≡◌ {A = Result (List Piece) ParseFault} (Ok a) (Ok b) → a ≡ b
same_pieces h = cc

by_front : (fuel line col : ℕ) (bytes : List ℕ) (c : Cut) (ps : List Piece) → Related fuel line → length bytes ≤ suc fuel → Stands bytes c
    → prepend c.says col (take c.len bytes) (pieces_from line 0 (col + c.len) (drop c.len bytes)) ≡ Ok ps → AreTokens col bytes ps
by_front fuel line col bytes c ps ih s (comment_stands {b = b} {bs = bs} k) h =
    comment_alone col b bs ps k (same_pieces (sym (ap (pieces_from line 0 (col + suc (length bs))) (drop-length (b ∷ bs)) ∙ nothing_left line (col + suc (length bs))) ∙ h))
by_front fuel line col bytes c ps ih s (blank_stands {b = b} {bs = bs} k) h = blank_before col b bs ps k (ih (col + 1) bs ps (omega arith) h)
by_front fuel line col bytes c ps ih s (token_stands t) h = token_first fuel line col bytes c ps ih s t h

pub stands_some : (bytes : List ℕ) (c : Cut) → Stands bytes c → 0 < c.len
stands_some bytes c (comment_stands k) = omega arith
stands_some bytes c (blank_stands k) = omega arith
stands_some bytes c (token_stands t) = t.some

pub tokens_related : (fuel line : ℕ) → Related fuel line
tokens_related fuel line col [] ps s h =
    subst (AreTokens col []) (same_pieces (sym (nothing_left line col) ∙ h)) (record { gap = []; tail = []; bytes_are = refl; blank = refl; comment = tt })
tokens_related zero line col (b ∷ bs) ps s h = absurd (omega arith)
tokens_related (suc fuel) line col (b ∷ bs) ps s h = by_result (front (b ∷ bs)) refl (tokens_related fuel line)
  where
    by_result : (r : Result Cut Flaw) → front (b ∷ bs) ≡ r → Related fuel line → AreTokens col (b ∷ bs) ps
    by_result (Ok c) e ih =
        let k = front_stands (b ∷ bs) c (omega arith) e in
        by_front fuel line col (b ∷ bs) c ps ih s k (sym (cut_off line col (b ∷ bs) c (omega arith) e (stands_some (b ∷ bs) c k)) ∙ h)
    by_result (Err f) e ih = let x : ◌≡◌ {A = Result (List Piece) ParseFault} (Err (fault_at line col f)) (Ok ps) = sym (fault_front line col (b ∷ bs) f (omega arith) e) ∙ h in absurd cc

-- the tokens of a whole line
pub line_is_cut : (line : ℕ) (bytes : List ℕ) (ps : List Piece) → pieces_of line bytes ≡ Ok ps → LineTokens bytes ps
line_is_cut line bytes ps h = tokens_related (length bytes) line 1 bytes ps (omega arith) h

pub line_is_read : (line : ℕ) (bytes : List ℕ) (ps : List Piece) → LineTokens bytes ps → pieces_of line bytes ≡ Ok ps
line_is_read line bytes ps h = tokens_read line 1 bytes ps h

pub one_cut : (line : List ℕ) (ps qs : List Piece) → LineTokens line ps → LineTokens line qs → ps ≡ qs
one_cut line ps qs h k = same_pieces (sym (line_is_read 1 line ps h) ∙ line_is_read 1 line qs k)
