-- The law of units: the unit that is read is the one that a source is related to, and there is no other.
use Rattle.std.proofs.Common.{◌≡◌, ℕ, ◌+◌, List, [], ◌∷◌, Option, Some, None, Ok, Err, Result, refl, sym, ap, ap₂, ◌∙◌, subst, IfOk}
use Rattle.m88_parse.specs.declared.fault.ParseFault.{ParseFault}
use Rattle.m88_parse.specs.declared.unit.Statement.{Statement}
use Rattle.m88_parse.specs.declared.unit.Module.{Module}
use Rattle.m88_parse.specs.declared.unit.Unit.{Unit as Source}
use Rattle.m88_parse.specs.Inside.Tokens.{pieces_of}
use Rattle.m88_parse.specs.Language.Pieces.{Piece}
use Rattle.m88_parse.specs.Fault.{Gives}
use Rattle.m88_parse.specs.Inside.State.{◌>>=◌}
use Rattle.m88_base.specs.Lines.{lines_of}
use Rattle.m88_parse.specs.Inside.Source.{SourceRow, a_statement, a_head, row_of_pieces, row_of_line, with_row, rows_of, grouped, main_with, modules_in, unit_of_rows, unit_of}
use Rattle.m88_parse.specs.Language.Tokens.{LineTokens}
use Rattle.m88_parse.specs.Language.Units.{Said, says_nothing, says, begins, LineSays, AreRows, no_row, row_of_nothing, row_of_statement, row_of_module, AreModules, only_main, first_main, no_main, IsUnit}
use Rattle.m88_parse.proofs.Law.SingleTokens.{ok_same, bind_ok, bind_to}
use Rattle.m88_parse.proofs.Law.Tokens.{line_is_cut, line_is_read}
use Rattle.m88_parse.proofs.Law.Statements.{row_for, line_read, line_again}

-- one line

pub record LineRow (number : ℕ) (line : List ℕ) (o : Option SourceRow) : Type 0 where
  pub pieces : List Piece
  pub said : Said
  pub tokens : LineTokens line pieces
  pub line_says : LineSays number pieces said
  pub row_is : row_for number said ≡ o

pub line_row : (number : ℕ) (line : List ℕ) (o : Option SourceRow) → row_of_line number line ≡ Ok o → LineRow number line o
unfolding row_of_line
line_row number line o h =
    let b = bind_ok (pieces_of number line) (λ (ps : List Piece). row_of_pieces number ps) o h in
    let k = line_read number b.0 o b.2 in
    record { pieces = b.0; said = k.0; tokens = line_is_cut number line b.0 b.1; line_says = k.1; row_is = k.2 }

pub row_again : (number : ℕ) (line : List ℕ) (ps : List Piece) (said : Said) → LineTokens line ps → LineSays number ps said → row_of_line number line ≡ Ok (row_for number said)
unfolding row_of_line
row_again number line ps said t h = bind_to (pieces_of number line) (λ (qs : List Piece). row_of_pieces number qs) ps (Ok (row_for number said)) (line_is_read number line ps t) (line_again number ps said h)

-- the lines in order

abbrev Grouped : ℕ → List (List ℕ) → List SourceRow → Type 0
Grouped number lines rows = AreRows number lines (grouped rows).0 (grouped rows).1

add_row : (number : ℕ) (line : List ℕ) (lines : List (List ℕ)) (ps : List Piece) (said : Said) (o : Option SourceRow) (rows : List SourceRow) → LineTokens line ps → LineSays number ps said → row_for number said ≡ o → Grouped (number + 1) lines rows → Grouped number (line ∷ lines) (with_row o rows)
unfolding grouped
add_row number line lines ps says_nothing o rows t h e g = subst (λ (r : Option SourceRow). Grouped number (line ∷ lines) (with_row r rows)) e (row_of_nothing t h g)
add_row number line lines ps (says s) o rows t h e g = subst (λ (r : Option SourceRow). Grouped number (line ∷ lines) (with_row r rows)) e (row_of_statement t h g)
add_row number line lines ps (begins name) o rows t h e g = subst (λ (r : Option SourceRow). Grouped number (line ∷ lines) (with_row r rows)) e (row_of_module t h g)

rows_related : (number : ℕ) (lines : List (List ℕ)) (rows : List SourceRow) → rows_of number lines ≡ Ok rows → Grouped number lines rows
unfolding rows_of grouped
rows_related number [] rows h = subst (Grouped number []) (ok_same h) no_row
rows_related number (line ∷ lines) rows h =
    let b = bind_ok (row_of_line number line) (λ (r : Option SourceRow). rows_of (number + 1) lines >>= λ (rs : List SourceRow). Ok (with_row r rs)) rows h in
    let c = bind_ok (rows_of (number + 1) lines) (λ (rs : List SourceRow). Ok (with_row b.0 rs)) rows b.2 in
    let k = line_row number line b.0 b.1 in
    subst (Grouped number (line ∷ lines)) (ok_same c.2) (add_row number line lines k.pieces k.said b.0 c.0 k.tokens k.line_says k.row_is (rows_related (number + 1) lines c.0 c.1))

-- rows that are read, with the statements and modules that they are
pub record RowsRead (number : ℕ) (lines : List (List ℕ)) (ss : List Statement) (ms : List Module) : Type 0 where
  pub rows : List SourceRow
  pub read : rows_of number lines ≡ Ok rows
  pub statements : (grouped rows).0 ≡ ss
  pub modules : (grouped rows).1 ≡ ms

one_more : (number : ℕ) (line : List ℕ) (lines : List (List ℕ)) (o : Option SourceRow) (rows : List SourceRow) → row_of_line number line ≡ Ok o → rows_of (number + 1) lines ≡ Ok rows → rows_of number (line ∷ lines) ≡ Ok (with_row o rows)
unfolding rows_of
one_more number line lines o rows h k =
    bind_to (row_of_line number line) (λ (r : Option SourceRow). rows_of (number + 1) lines >>= λ (rs : List SourceRow). Ok (with_row r rs)) o (Ok (with_row o rows)) h
    (bind_to (rows_of (number + 1) lines) (λ (rs : List SourceRow). Ok (with_row o rs)) rows (Ok (with_row o rows)) k refl)

rows_again : {number : ℕ} {lines : List (List ℕ)} {ss : List Statement} {ms : List Module} → AreRows number lines ss ms → RowsRead number lines ss ms
unfolding rows_of grouped
rows_again no_row = record { rows = []; read = refl; statements = refl; modules = refl }
rows_again (row_of_nothing {number = number} {line = line} {lines = lines} {ps = ps} t h g) =
    let k = rows_again g in
    record { rows = k.rows; read = one_more number line lines None k.rows (row_again number line ps says_nothing t h) k.read; statements = k.statements; modules = k.modules }
rows_again (row_of_statement {number = number} {line = line} {lines = lines} {ps = ps} {s = s} t h g) =
    let k = rows_again g in
    record {
      rows = a_statement s ∷ k.rows;
      read = one_more number line lines (Some (a_statement s)) k.rows (row_again number line ps (says s) t h) k.read;
      statements = ap (λ (xs : List Statement). s ∷ xs) k.statements;
      modules = k.modules;
    }
rows_again (row_of_module {number = number} {line = line} {lines = lines} {ps = ps} {name = name} t h g) =
    let k = rows_again g in
    record {
      rows = a_head name number ∷ k.rows;
      read = one_more number line lines (Some (a_head name number)) k.rows (row_again number line ps (begins name) t h) k.read;
      statements = refl;
      modules = ap₂ (λ (xs : List Statement) (ys : List Module). record { name = name; line = number; statements = xs } ∷ ys) k.statements k.modules;
    }

-- modules

modules_related : (ss : List Statement) (ms : List Module) → AreModules ss ms (modules_in ss ms)
modules_related [] [] = only_main
modules_related [] (m ∷ ms) = no_main
modules_related (s ∷ ss) [] = only_main
modules_related (s ∷ ss) (m ∷ ms) = first_main

main_computed : (ss : List Statement) → modules_in ss [] ≡ main_with ss ∷ []
main_computed [] = refl
main_computed (s ∷ ss) = refl

modules_computed : {ss : List Statement} {ms all : List Module} → AreModules ss ms all → modules_in ss ms ≡ all
modules_computed (only_main {ss = ss}) = main_computed ss
modules_computed first_main = refl
modules_computed no_main = refl

-- units

same_unit : (a b : List Module) → a ≡ b → ◌≡◌ {A = Source} (record { modules = a }) (record { modules = b })
same_unit a b h = ap (λ (ms : List Module). let u : Source = record { modules = ms } in u) h

pub read_is_related : (source : List ℕ) (unit : Source) → unit_of source ≡ Ok unit → IsUnit source unit
unfolding unit_of
read_is_related source unit h =
    let b = bind_ok (rows_of 1 (lines_of source)) (λ (rows : List SourceRow). let y : Result Source ParseFault = Ok (unit_of_rows rows) in y) unit h in
    let g = grouped b.0 in
    subst (IsUnit source) (ok_same b.2)
    (record { statements = g.0; modules = g.1; are_rows = rows_related 1 (lines_of source) b.0 b.1; are_modules = modules_related g.0 g.1 })

pub related_is_read : (source : List ℕ) (unit : Source) → IsUnit source unit → unit_of source ≡ Ok unit
unfolding unit_of
related_is_read source unit h =
    let k = rows_again h.are_rows in
    let r : rows_of 1 (lines_of source) ≡ Ok k.rows = k.read in
    let m : modules_in (grouped k.rows).0 (grouped k.rows).1 ≡ unit.modules = ap₂ modules_in k.statements k.modules ∙ modules_computed h.are_modules in
    bind_to (rows_of 1 (lines_of source)) (λ (rows : List SourceRow). let y : Result Source ParseFault = Ok (unit_of_rows rows) in y) k.rows (Ok unit) r
    (ap (λ (u : Source). let y : Result Source ParseFault = Ok u in y) (same_unit (modules_in (grouped k.rows).0 (grouped k.rows).1) unit.modules m))

pub single_unit : (source : List ℕ) (a b : Source) → IsUnit source a → IsUnit source b → a ≡ b
single_unit source a b h k = ok_same (sym (related_is_read source a h) ∙ related_is_read source b k)

-- what a call gives

pub found_unit : (source : List ℕ) (r : Result Source ParseFault) → Gives (λ (u : Source). u) r (unit_of source) → IfOk r (λ (u : Source). IsUnit source u)
found_unit source (Ok u) h = read_is_related source u h
found_unit source (Err e) h = tt

pub only_unit : (source : List ℕ) (r : Result Source ParseFault) → Gives (λ (u : Source). u) r (unit_of source) → (u : Source) → IsUnit source u → Gives (λ (v : Source). v) r (Ok u)
only_unit source r h u k = subst (λ (x : Result Source ParseFault). Gives (λ (v : Source). v) r x) (related_is_read source u k) h
