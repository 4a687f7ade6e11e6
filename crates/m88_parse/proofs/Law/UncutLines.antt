-- The law of lines that can't be cut: a line breaks off at exactly one place for one reason.
use Rattle.std.proofs.Common.{◌≡◌, ℕ, zero, suc, ◌+◌, ◌≤◌, Bool, true, ◌&&◌, List, [], ◌∷◌, ◌++◌, length, take, drop, Option, Some, None, Ok, Err, refl, sym, ap, ◌∙◌, arith, subst, Result, length-take, length-drop}
use Rattle.std.specs.List.{list_all}
use Rattle.std.proofs.Math.Seq.{drop-length}
use Rattle.m88_parse.specs.declared.fault.ParseFault.{ParseFault}
use Rattle.m88_parse.specs.declared.fault.ParseKind.{ParseKind}
use Rattle.m88_parse.specs.declared.scan.Flaw.{Flaw}
use Rattle.m88_parse.specs.Inside.Tokens.{Cut, front, prepend, fault_at, pieces_from, pieces_of}
use Rattle.m88_parse.specs.Language.Bytes.{is_blank}
use Rattle.m88_parse.specs.Language.Pieces.{TokenValue, Piece}
use Rattle.m88_parse.specs.Language.FirstFaults.{IsFlaw, Breaks}
use Rattle.m88_parse.proofs.CuttingTokens.{cut_off, fault_front}
use Rattle.m88_parse.proofs.Law.FirstToken.{TokenAt, Stands, comment_stands, blank_stands, token_stands, front_stands}
use Rattle.m88_parse.proofs.Law.Tokens.{blank_begins, token_begins, gap_passed, token_passed, nothing_left, stands_some}
use Rattle.m88_parse.proofs.Law.FirstFlaw.{flaw_again, flaw_some, front_flawed}

abbrev pub broken : ℕ → ℕ → ParseKind → Result (List Piece) ParseFault
broken line at kind = Err (record { line = line; col = at; kind = kind })

-- what is related is read

pub breaks_read : (line col : ℕ) (bytes : List ℕ) (ps : List Piece) (at : ℕ) (kind : ParseKind) → Breaks col bytes ps at kind → pieces_from line 0 col bytes ≡ broken line at kind
breaks_read line col bytes [] at kind h =
    ap (pieces_from line 0 col) h.bytes_are
    ∙ gap_passed line col h.gap h.rest h.blank
    ∙ fault_front line (col + length h.gap) h.rest (record { at = h.far; kind = kind }) (flaw_some h.rest h.far kind h.flaw) (flaw_again h.rest h.far kind h.flaw)
    ∙ ap (λ (n : ℕ). broken line n kind) (sym h.place)
breaks_read line col bytes (p ∷ ps) at kind h =
    let b = h.1 in
    ap (pieces_from line 0 col) b.bytes_are
    ∙ gap_passed line col b.gap (p.text ++ h.0) b.blank
    ∙ ap (λ (n : ℕ). pieces_from line 0 n (p.text ++ h.0)) (sym b.place)
    ∙ token_passed line p.col p.text h.0 p.says b.token b.longest
    ∙ ap (prepend (Some p.says) p.col p.text) (breaks_read line (p.col + length p.text) h.0 ps at kind h.2)

-- what is read is related

pub record Broken (line col : ℕ) (bytes : List ℕ) (f : ParseFault) : Type 0 where
  pub tokens : List Piece
  pub breaks : Breaks col bytes tokens f.col f.kind
  pub same_line : line ≡ f.line

prepended_fault : (o : Option TokenValue) (col : ℕ) (text : List ℕ) (r : Result (List Piece) ParseFault) (f : ParseFault) → prepend o col text r ≡ Err f → r ≡ Err f
prepended_fault None col text r f h = h
prepended_fault (Some m) col text (Ok qs) f h = absurd cc
prepended_fault (Some m) col text (Err g) f h = h

blank_then : (col b : ℕ) (bs : List ℕ) (ps : List Piece) (at : ℕ) (kind : ParseKind) → is_blank b ≡ true → Breaks (col + 1) bs ps at kind → Breaks col (b ∷ bs) ps at kind
blank_then col b bs [] at kind w h = record {
  gap = b ∷ h.gap;
  rest = h.rest;
  far = h.far;
  bytes_are = ap (λ (xs : List ℕ). b ∷ xs) h.bytes_are;
  blank = ap (λ (t : Bool). t && list_all is_blank h.gap) w ∙ h.blank;
  flaw = h.flaw;
  place = omega (arith, h.place);
}
blank_then col b bs (p ∷ ps) at kind w h = (h.0, blank_begins col b bs p h.0 w h.1, h.2)

abbrev Broke : ℕ → ℕ → Type 0
Broke fuel line = (col : ℕ) (bytes : List ℕ) (f : ParseFault) → length bytes ≤ fuel → pieces_from line 0 col bytes ≡ Err f → Broken line col bytes f

token_then : (fuel line col : ℕ) (bytes : List ℕ) (c : Cut) (f : ParseFault) → Broke fuel line → length bytes ≤ suc fuel → TokenAt bytes c
    → prepend c.says col (take c.len bytes) (pieces_from line 0 (col + c.len) (drop c.len bytes)) ≡ Err f → Broken line col bytes f
token_then fuel line col bytes c f ih s t h =
    let some = t.some in
    let fits = t.fits in
    let shorter : length (drop c.len bytes) ≤ fuel = omega (arith, length-drop c.len bytes) in
    let l : length (take c.len bytes) ≡ c.len = omega (arith, length-take c.len bytes) in
    let after = ih (col + c.len) (drop c.len bytes) f shorter (prepended_fault c.says col (take c.len bytes) (pieces_from line 0 (col + c.len) (drop c.len bytes)) f h) in
    record {
      tokens = record { text = take c.len bytes; col = col; says = t.meaning } ∷ after.tokens;
      breaks = (
        drop c.len bytes,
        token_begins col bytes c t,
        subst (λ (n : ℕ). Breaks (col + n) (drop c.len bytes) after.tokens f.col f.kind) (sym l) after.breaks,
      );
      same_line = after.same_line;
    }

by_front : (fuel line col : ℕ) (bytes : List ℕ) (c : Cut) (f : ParseFault) → Broke fuel line → length bytes ≤ suc fuel → Stands bytes c
    → prepend c.says col (take c.len bytes) (pieces_from line 0 (col + c.len) (drop c.len bytes)) ≡ Err f → Broken line col bytes f
by_front fuel line col bytes c f ih s (comment_stands {b = b} {bs = bs} k) h =
    let e : ◌≡◌ {A = Result (List Piece) ParseFault} (Ok []) (Err f) = sym (ap (pieces_from line 0 (col + suc (length bs))) (drop-length (b ∷ bs)) ∙ nothing_left line (col + suc (length bs))) ∙ h in
    absurd cc
by_front fuel line col bytes c f ih s (blank_stands {b = b} {bs = bs} k) h =
    let after = ih (col + 1) bs f (omega arith) h in
    record { tokens = after.tokens; breaks = blank_then col b bs after.tokens f.col f.kind k after.breaks; same_line = after.same_line }
by_front fuel line col bytes c f ih s (token_stands t) h = token_then fuel line col bytes c f ih s t h

at_once : (line col b : ℕ) (bs : List ℕ) (g : Flaw) → IsFlaw (b ∷ bs) g.at g.kind → Broken line col (b ∷ bs) (fault_at line col g)
at_once line col b bs g h = record {
  tokens = [];
  breaks = record { gap = []; rest = b ∷ bs; far = g.at; bytes_are = refl; blank = refl; flaw = h; place = omega arith };
  same_line = refl;
}

same_fault : {a b : ParseFault} → ◌≡◌ {A = Result (List Piece) ParseFault} (Err a) (Err b) → a ≡ b
same_fault h = cc

pub breaks_related : (fuel line : ℕ) → Broke fuel line
breaks_related fuel line col [] f s h = let e : ◌≡◌ {A = Result (List Piece) ParseFault} (Ok []) (Err f) = sym (nothing_left line col) ∙ h in absurd cc
breaks_related zero line col (b ∷ bs) f s h = absurd (omega arith)
breaks_related (suc fuel) line col (b ∷ bs) f s h = by_result (front (b ∷ bs)) refl (breaks_related fuel line)
  where
    by_result : (r : Result Cut Flaw) → front (b ∷ bs) ≡ r → Broke fuel line → Broken line col (b ∷ bs) f
    by_result (Ok c) e ih =
        let k = front_stands (b ∷ bs) c (omega arith) e in
        by_front fuel line col (b ∷ bs) c f ih s k (sym (cut_off line col (b ∷ bs) c (omega arith) e (stands_some (b ∷ bs) c k)) ∙ h)
    by_result (Err g) e ih =
        subst (Broken line col (b ∷ bs)) (same_fault (sym (fault_front line col (b ∷ bs) g (omega arith) e) ∙ h)) (at_once line col b bs g (front_flawed b bs g e))

pub line_breaks : (line : ℕ) (bytes : List ℕ) (f : ParseFault) → pieces_of line bytes ≡ Err f → Broken line 1 bytes f
line_breaks line bytes f h = breaks_related (length bytes) line 1 bytes f (omega arith) h
