-- The law of faults: the fault that is read is the source's first one, and there is no other.
use Rattle.std.proofs.Common.{◌≡◌, ℕ, ◌+◌, List, [], ◌∷◌, Option, Ok, Err, Result, refl, sym, ap, ◌∙◌, subst, inl, inr, ◌⊎◌, IfErr}
use Rattle.m88_parse.specs.declared.fault.ParseKind.{ParseKind}
use Rattle.m88_parse.specs.declared.fault.ParseFault.{ParseFault}
use Rattle.m88_parse.specs.declared.unit.Unit.{Unit as Source}
use Rattle.m88_parse.specs.Fault.{Gives, out_of_memory}
use Rattle.m88_parse.specs.Inside.Tokens.{pieces_of}
use Rattle.m88_parse.specs.Language.Pieces.{Piece}
use Rattle.m88_parse.specs.Inside.State.{◌>>=◌}
use Rattle.m88_base.specs.Lines.{lines_of}
use Rattle.m88_parse.specs.Inside.Source.{SourceRow, row_of_pieces, row_of_line, with_row, rows_of, unit_of_rows, unit_of}
use Rattle.m88_parse.specs.Language.Tokens.{LineTokens}
use Rattle.m88_parse.specs.Language.Units.{IsUnit}
use Rattle.m88_parse.specs.Language.LineFaults.{IsLineFault}
use Rattle.m88_base.specs.OneVerdict.{HasOneVerdict}
use Rattle.m88_parse.specs.Language.FirstFaults.{FirstOf, uncut_line, faulty_line, later_line, IsFirstFault}
use Rattle.m88_parse.proofs.Law.SingleTokens.{bind_to}
use Rattle.m88_parse.proofs.Law.Tokens.{line_is_cut, line_is_read}
use Rattle.m88_parse.proofs.Law.UncutLines.{breaks_read, Broken, line_breaks}
use Rattle.m88_parse.proofs.Law.LineFaults.OneFault.{one_line_fault}
use Rattle.m88_parse.proofs.Law.LineFaults.WholeLines.{LineFaultBy, line_fault_told, said_not_faulty}
use Rattle.m88_parse.proofs.Law.Units.{line_row, row_again, read_is_related, related_is_read, single_unit}
use Rattle.m88_parse.proofs.Law.Statements.{row_for, line_read}

pub err_same : {A : Type 0} {a b : ParseFault} → ◌≡◌ {A = Result A ParseFault} (Err a) (Err b) → a ≡ b
err_same h = cc

bind_err : {A B : Type 0} (r : Result A ParseFault) (f : A → Result B ParseFault) (e : ParseFault) → r ≡ Err e → (r >>= f) ≡ Err e
bind_err r f e h = ap (λ (x : Result _ ParseFault). x >>= f) h

-- where a chain fails: in its first part, or behind it
bind_failed : {A B : Type 0} (r : Result A ParseFault) (f : A → Result B ParseFault) (e : ParseFault) → (r >>= f) ≡ Err e → (r ≡ Err e) ⊎ ((x : A) × (r ≡ Ok x) × (f x ≡ Err e))
bind_failed (Ok x) f e h = inr (x, refl, h)
bind_failed (Err g) f e h = inl (ap (λ (k : ParseFault). let r : Result _ ParseFault = Err k in r) (err_same h))

abbrev Rest : ℕ → List (List ℕ) → Option SourceRow → Result (List SourceRow) ParseFault
Rest number lines r = rows_of (number + 1) lines >>= λ (rs : List SourceRow). Ok (with_row r rs)

-- what is read is related

first_related : (number : ℕ) (lines : List (List ℕ)) (f : ParseFault) → rows_of number lines ≡ Err f → FirstOf number lines f
unfolding rows_of row_of_line
first_related number [] f h = absurd cc
first_related number (line ∷ lines) f h =
    elim (bind_failed (row_of_line number line) (Rest number lines) f h) [
      | inl j ↦
          elim (bind_failed (pieces_of number line) (λ (ps : List Piece). row_of_pieces number ps) f j) [
            | inl k ↦
                let b = line_breaks number line f k in
                uncut b
            | inr k ↦ at_tokens k.0 (line_is_cut number line k.0 k.1) (line_fault_told number k.0 f k.2)
          ]
      | inr j ↦
          elim (bind_failed (rows_of (number + 1) lines) (λ (rs : List SourceRow). let y : Result (List SourceRow) ParseFault = Ok (with_row j.0 rs) in y) f j.2) [
            | inl k ↦
                let r = line_row number line j.0 j.1 in
                later_line r.pieces r.said r.tokens r.line_says (first_related (number + 1) lines f k)
            | inr k ↦ absurd (no_err k.2)
          ]
    ]
  where
    uncut : Broken number 1 line f → FirstOf number (line ∷ lines) f
    uncut b = subst (λ (n : ℕ). FirstOf number (line ∷ lines) (record { line = n; col = f.col; kind = f.kind })) b.same_line (uncut_line b.tokens b.breaks)

    at_tokens : (ps : List Piece) → LineTokens line ps → LineFaultBy number ps f → FirstOf number (line ∷ lines) f
    at_tokens ps t u = subst (λ (n : ℕ). FirstOf number (line ∷ lines) (record { line = n; col = f.col; kind = f.kind })) u.1 (faulty_line ps t u.0)

    no_err : {rows : List SourceRow} → ◌≡◌ {A = Result (List SourceRow) ParseFault} (Ok rows) (Err f) → ⊥
    no_err e = cc

-- what is related is read

same_fault : (l m a b : ℕ) (j k : ParseKind) → l ≡ m → a ≡ b → j ≡ k → ◌≡◌ {A = ParseFault} (record { line = l; col = a; kind = j }) (record { line = m; col = b; kind = k })
same_fault l m a b j k x y z = λ i. record { line = x i; col = y i; kind = z i }

line_fault_read : (number : ℕ) (ps : List Piece) (at : ℕ) (kind : ParseKind) → IsLineFault ps at kind → row_of_pieces number ps ≡ Err (record { line = number; col = at; kind = kind })
line_fault_read number ps at kind u = by_result (row_of_pieces number ps) refl
  where
    by_result : (r : Result (Option SourceRow) ParseFault) → row_of_pieces number ps ≡ r → row_of_pieces number ps ≡ Err (record { line = number; col = at; kind = kind })
    by_result (Ok o) e = let w = line_read number ps o e in absurd (said_not_faulty number ps w.0 at kind w.1 u)
    by_result (Err f) e =
        let w = line_fault_told number ps f e in
        let same = one_line_fault ps f.col at f.kind kind w.0 u in
        e ∙ ap (λ (g : ParseFault). let r : Result (Option SourceRow) ParseFault = Err g in r) (same_fault f.line number f.col at f.kind kind (sym w.1) same.0 same.1)

first_read : {number : ℕ} {lines : List (List ℕ)} {f : ParseFault} → FirstOf number lines f → rows_of number lines ≡ Err f
unfolding rows_of row_of_line
first_read (uncut_line {number = number} {line = line} {lines = lines} ps {at = at} {kind = kind} h) =
    let e : ParseFault = record { line = number; col = at; kind = kind } in
    bind_err (row_of_line number line) (Rest number lines) e (bind_err (pieces_of number line) (λ (qs : List Piece). row_of_pieces number qs) e (breaks_read number 1 line ps at kind h))
first_read (faulty_line {number = number} {line = line} {lines = lines} ps {at = at} {kind = kind} t u) =
    let e : ParseFault = record { line = number; col = at; kind = kind } in
    bind_err (row_of_line number line) (Rest number lines) e (bind_to (pieces_of number line) (λ (qs : List Piece). row_of_pieces number qs) ps (Err e) (line_is_read number line ps t) (line_fault_read number ps at kind u))
first_read (later_line {number = number} {line = line} {lines = lines} ps said {fault = fault} t h g) =
    bind_to (row_of_line number line) (Rest number lines) (row_for number said) (Err fault) (row_again number line ps said t h)
    (bind_err (rows_of (number + 1) lines) (λ (rs : List SourceRow). let y : Result (List SourceRow) ParseFault = Ok (with_row (row_for number said) rs) in y) fault (first_read g))

-- sources

pub fault_is_related : (source : List ℕ) (f : ParseFault) → unit_of source ≡ Err f → IsFirstFault source f
unfolding unit_of
fault_is_related source f h =
    elim (bind_failed (rows_of 1 (lines_of source)) (λ (rows : List SourceRow). let y : Result Source ParseFault = Ok (unit_of_rows rows) in y) f h) [
      | inl k ↦ first_related 1 (lines_of source) f k
      | inr k ↦ absurd (no_err k.2)
    ]
  where
    no_err : {u : Source} → ◌≡◌ {A = Result Source ParseFault} (Ok u) (Err f) → ⊥
    no_err e = cc

pub related_fault_is_read : (source : List ℕ) (f : ParseFault) → IsFirstFault source f → unit_of source ≡ Err f
unfolding unit_of
related_fault_is_read source f h =
    bind_err (rows_of 1 (lines_of source)) (λ (rows : List SourceRow). let y : Result Source ParseFault = Ok (unit_of_rows rows) in y) f (first_read h)

pub single_fault : (source : List ℕ) (a b : ParseFault) → IsFirstFault source a → IsFirstFault source b → a ≡ b
single_fault source a b h k = err_same (sym (related_fault_is_read source a h) ∙ related_fault_is_read source b k)

pub not_both : (source : List ℕ) (unit : Source) (f : ParseFault) → IsUnit source unit → IsFirstFault source f → ⊥
not_both source unit f h k = let e : ◌≡◌ {A = Result Source ParseFault} (Ok unit) (Err f) = sym (related_is_read source unit h) ∙ related_fault_is_read source f k in cc

pub unit_or_fault : (source : List ℕ) → ((unit : Source) × IsUnit source unit) ⊎ ((f : ParseFault) × IsFirstFault source f)
unit_or_fault source = by_result (unit_of source) refl
  where
    by_result : (r : Result Source ParseFault) → unit_of source ≡ r → ((unit : Source) × IsUnit source unit) ⊎ ((f : ParseFault) × IsFirstFault source f)
    by_result (Ok u) e = inl (u, read_is_related source u e)
    by_result (Err f) e = inr (f, fault_is_related source f e)

-- what a call gives

pub found_fault : (source : List ℕ) (r : Result Source ParseFault) → Gives (λ (u : Source). u) r (unit_of source) → IfErr r (λ (e : ParseFault). (e ≡ out_of_memory) ⊎ IsFirstFault source e)
found_fault source (Ok u) h = tt
found_fault source (Err e) (inl h) = inl h
found_fault source (Err e) (inr h) = inr (fault_is_related source e h)

pub only_fault : (source : List ℕ) (r : Result Source ParseFault) → Gives (λ (u : Source). u) r (unit_of source) → (e : ParseFault) → IsFirstFault source e → Gives (λ (v : Source). v) r (Err e)
only_fault source r h e k = subst (λ (x : Result Source ParseFault). Gives (λ (v : Source). v) r x) (related_fault_is_read source e k) h

pub one_verdict : (source : List ℕ) → HasOneVerdict (IsUnit source) (IsFirstFault source)
one_verdict source = record {
  some = unit_or_fault source;
  not_both = not_both source;
  one_value = single_unit source;
  one_fault = single_fault source;
}
