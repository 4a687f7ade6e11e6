-- The modules of a source as they grow, row by row.
use Rattle.std.proofs.Common.{◌≡◌, ℕ, zero, suc, false, ◌+◌, ◌<◌, ◌⊎◌, inl, inr, List, [], ◌∷◌, ◌++◌, length, Option, Some, None, Result, Ok, Err, refl, sym, ap, ◌∙◌, append_assoc, arith}
use Rattle.std.specs.Prelude.{◌==◌, IfOk, IfErr, OnOk, MatchResult}
use Rattle.std.proofs.lemmas.List.{append-nil}
use Rattle.m88_parse.specs.declared.fault.ParseFault.{ParseFault}
use Rattle.m88_parse.specs.declared.unit.Statement.{Statement}
use Rattle.m88_parse.specs.declared.unit.Module.{Module}
use Rattle.m88_parse.specs.declared.unit.Unit.{Unit as Source}
use Rattle.m88_parse.specs.Fault.{out_of_memory}
use Rattle.m88_parse.specs.Language.Pieces.{Piece}
use Rattle.m88_parse.specs.Inside.Tokens.{pieces_of}
use Rattle.m88_parse.specs.Inside.State.{ReaderState, ◌>>=◌}
use Rattle.m88_base.specs.Lines.{lines_of}
use Rattle.m88_parse.specs.Inside.Source.{SourceRow, a_statement, a_head, end_of_line, grouped, row_at, row_of_line, row_of_pieces, rows_of, with_row, unit_of_rows, unit_of}
use Rattle.m88_parse.specs.Inside.Drafts.{Drafted, nothing_yet, with_more, modules_with, modules_after, begun, leads, Follows, GoesOn, LeadsOn, EndsWith}

more_first : (closed : List Module) (m : Module) (x : Statement) (g : List Statement) (ms : List Module)
    → closed ++ with_more (with_more m (x ∷ [])) g ∷ ms ≡ closed ++ with_more m (x ∷ g) ∷ ms
more_first closed m x g ms = ap (λ (xs : List Statement). closed ++ (record { name = m.name; line = m.line; statements = xs }) ∷ ms) (append_assoc m.statements (x ∷ []) g)

after_statement : (closed : List Module) (current : Option Module) (x : Statement) (rows : List SourceRow)
    → modules_with closed (Some (with_more (begun current) (x ∷ []))) rows ≡ modules_with closed current (a_statement x ∷ rows)
unfolding grouped
after_statement closed None x rows = refl
after_statement closed (Some m) x rows = more_first closed m x (grouped rows).0 (grouped rows).1

after_head : (closed : List Module) (m next : Module) (rows : List SourceRow) → next.statements ≡ []
    → modules_with (closed ++ m ∷ []) (Some next) rows ≡ modules_with closed (Some m) (a_head next.name next.line ∷ rows)
unfolding grouped
after_head closed m next rows e =
    let rest = (grouped rows).1 in
    append_assoc closed (m ∷ []) (with_more next (grouped rows).0 ∷ rest)
    ∙ ap (λ (xs : List Statement). closed ++ (record { name = m.name; line = m.line; statements = xs }) ∷ with_more next (grouped rows).0 ∷ rest) (sym (append-nil m.statements))
    ∙ ap (λ (xs : List Statement). closed ++ with_more m [] ∷ record { name = next.name; line = next.line; statements = xs ++ (grouped rows).0 } ∷ rest) e

after_first_head : (closed : List Module) (next : Module) (rows : List SourceRow) → next.statements ≡ []
    → modules_with closed (Some next) rows ≡ modules_with closed None (a_head next.name next.line ∷ rows)
unfolding grouped
after_first_head closed next rows e =
    ap (λ (xs : List Statement). closed ++ record { name = next.name; line = next.line; statements = xs ++ (grouped rows).0 } ∷ (grouped rows).1) e

pub at_end : (closed : List Module) (current : Option Module) → modules_with closed current [] ≡ closed ++ begun current ∷ []
unfolding grouped
at_end closed None = refl
at_end closed (Some m) = ap (λ (xs : List Statement). closed ++ record { name = m.name; line = m.line; statements = xs } ∷ []) (append-nil m.statements)

-- a row more in a draft
pub follows_statement : (closed : List Module) (current : Option Module) (next : Module) (d : Drafted) (x : Statement) → next ≡ with_more (begun current) (x ∷ [])
    → record { closed = closed; current = current } ≡ d → Follows (record { closed = closed; current = Some next }) d (Some (a_statement x))
follows_statement closed current next d x h e rows =
    ap (λ (m : Module). modules_with closed (Some m) rows) h ∙ after_statement closed current x rows ∙ ap (λ (k : Drafted). modules_after k (a_statement x ∷ rows)) e

pub pushed_follows : {X : Type 0} (r : Result X ParseFault) (closed : List Module) (m next : Module) (d : Drafted) (x : Statement) → IfOk r (λ y. next ≡ with_more m (x ∷ []))
    → record { closed = closed; current = Some m } ≡ d → IfOk r (λ y. Follows (record { closed = closed; current = Some next }) d (Some (a_statement x)))
pushed_follows (Ok y) closed m next d x h e = follows_statement closed (Some m) next d x h e
pushed_follows (Err f) closed m next d x h e = tt

pub head_follows : (closed new_closed : List Module) (m next : Module) (d : Drafted) → next.statements ≡ [] → new_closed ≡ closed ++ m ∷ [] → record { closed = closed; current = Some m } ≡ d
    → Follows (record { closed = new_closed; current = Some next }) d (Some (a_head next.name next.line))
head_follows closed new_closed m next d n h e rows =
    ap (λ (ms : List Module). modules_with ms (Some next) rows) h ∙ after_head closed m next rows n ∙ ap (λ (k : Drafted). modules_after k (a_head next.name next.line ∷ rows)) e

pub first_head_follows : (closed : List Module) (next : Module) (d : Drafted) → next.statements ≡ [] → record { closed = closed; current = None } ≡ d
    → Follows (record { closed = closed; current = Some next }) d (Some (a_head next.name next.line))
first_head_follows closed next d n e rows = after_first_head closed next rows n ∙ ap (λ (k : Drafted). modules_after k (a_head next.name next.line ∷ rows)) e

leads_on : (after before : Drafted) (r : Option SourceRow) (read : Result (List SourceRow) ParseFault)
    → Follows after before r → leads after read ≡ leads before (read >>= λ rows. Ok (with_row r rows))
leads_on after before r (Ok rows) h = ap (λ (ms : List Module). let u : Result Source ParseFault = Ok (record { modules = ms }) in u) (h rows)
leads_on after before r (Err e) h = refl

by_row : (number : ℕ) (lines : List (List ℕ)) → Result (Option SourceRow) ParseFault → Result (List SourceRow) ParseFault
unfolding rows_of
by_row number lines r = r >>= λ x. rows_of (number + 1) lines >>= λ rows. Ok (with_row x rows)

pub line_leads_on : (number : ℕ) (line : List ℕ) (after before : Drafted) (r : Option SourceRow)
    → row_of_line number line ≡ Ok r → Follows after before r → LeadsOn number line after before
unfolding rows_of by_row
line_leads_on number line after before r e h lines =
    leads_on after before r (rows_of (number + 1) lines) h
    ∙ ap (λ x. leads before (by_row number lines x)) (sym e)

line_ends_with : (number : ℕ) (line : List ℕ) (before : Drafted) (f : ParseFault)
    → row_of_line number line ≡ Err f → EndsWith number line before f
unfolding rows_of by_row
line_ends_with number line before f e lines = ap (λ x. leads before (by_row number lines x)) e

-- before the first line
start : (r : Result (List SourceRow) ParseFault) → leads nothing_yet r ≡ (r >>= λ rows. Ok (unit_of_rows rows))
start (Ok rows) = refl
start (Err e) = refl

pub starts : (source : List ℕ) → leads nothing_yet (rows_of 1 (lines_of source)) ≡ unit_of source
unfolding unit_of
starts source = start (rows_of 1 (lines_of source))

-- behind the last line
pub ends_all : (number : ℕ) (rest : List ℕ) (d : Drafted) (total : Result Source ParseFault) → length rest ≡ 0
    → leads d (rows_of number (lines_of rest)) ≡ total → total ≡ Ok (record { modules = modules_after d [] })
unfolding rows_of lines_of
ends_all number [] d total h so_far = sym so_far
ends_all number (b ∷ bs) d total h so_far = absurd (omega arith)

-- a line that can't be cut
pub uncut_line : (number : ℕ) (line : List ℕ) (before : Drafted) (f : ParseFault)
    → (f ≡ out_of_memory) ⊎ (pieces_of number line ≡ Err f) → (f ≡ out_of_memory) ⊎ EndsWith number line before f
unfolding row_of_line
uncut_line number line before f (inl e) = inl e
uncut_line number line before f (inr e) = inr (line_ends_with number line before f (ap (λ r. r >>= λ ps. row_of_pieces number ps) e))

-- a line without tokens
pub no_tokens : (number : ℕ) (line : List ℕ) (d : Drafted) (ps : List Piece) → pieces_of number line ≡ Ok ps → length ps ≡ 0 → LeadsOn number line d d
unfolding row_of_line
no_tokens number line d [] e h = line_leads_on number line d d None (ap (λ r. r >>= λ ps. row_of_pieces number ps) e) (λ rows. refl)
no_tokens number line d (p ∷ ps) e h = absurd (omega arith)

by_reading : {X : Type 0} (r : Result X ParseFault) (number : ℕ) (line : List ℕ) (after before : Drafted) (read : Result SourceRow ParseFault)
    → row_of_line number line ≡ (read >>= λ x. Ok (Some x)) → OnOk r (GoesOn after before read) → IfErr r (λ e. (e ≡ out_of_memory) ⊎ (read ≡ Err e))
    → MatchResult r (λ y. LeadsOn number line after before) (λ e. (e ≡ out_of_memory) ⊎ EndsWith number line before e)
by_reading (Ok y) number line after before (Ok x) e h k = line_leads_on number line after before (Some x) e h
by_reading (Ok y) number line after before (Err f) e h k = absurd h
by_reading (Err f) number line after before read e h (inl k) = inl k
by_reading (Err f) number line after before read e h (inr k) = inr (line_ends_with number line before f (e ∙ ap (λ x. x >>= λ y. Ok (Some y)) k))

-- a number that the test for 0 does not take
pub some_left : (n : ℕ) → (n == 0) ≡ false → 0 < n
some_left zero h = absurd (cc)
some_left (suc n) h = omega arith

-- a line with tokens, by its row
pub line_read : {X : Type 0} (r : Result X ParseFault) (number : ℕ) (line : List ℕ) (after before : Drafted) (ps : List Piece) (s : ReaderState)
    → pieces_of number line ≡ Ok ps → 0 < length ps → s ≡ record { line = number; end_col = end_of_line ps; rest = ps }
    → OnOk r (GoesOn after before (row_at s)) → IfErr r (λ e. (e ≡ out_of_memory) ⊎ (row_at s ≡ Err e))
    → MatchResult r (λ y. LeadsOn number line after before) (λ e. (e ≡ out_of_memory) ⊎ EndsWith number line before e)
unfolding row_of_line
line_read r number line after before [] s e some at h k = absurd (omega arith)
line_read r number line after before (p ∷ ps) s e some at h k =
    by_reading r number line after before (row_at s)
    (ap (λ x. x >>= λ qs. row_of_pieces number qs) e ∙ ap (λ t. row_at t >>= λ x. Ok (Some x)) (sym at)) h k
