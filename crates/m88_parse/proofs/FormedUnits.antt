-- The unit of a source shorter than 2^31 bytes is well-formed.
use Rattle.std.proofs.Common.{◌≡◌, ℕ, suc, ◌+◌, ◌<◌, ◌≤◌, ◌^◌, ◌==◌, ◌&&◌, Bool, true, false, cond, List, [], ◌∷◌, length, arith}
use Rattle.std.specs.Prelude.{codes}
use Rattle.std.specs.List.{All, sum_by}
use Rattle.std.proofs.lemmas.List.Elements.{All-cons, All-nil}
use Rattle.std.proofs.lemmas.List.Sums.{sum_by-cons}
use Rattle.m88_base.specs.Lines.{begins_with_lf, carriage_return, line_feed, lines_of, on_first_line}
use Rattle.m88_base.specs.declared.fixup.Kind.{Kind}
use Rattle.m88_base.specs.declared.fixup.Kind.TheVariants.{Abs32}
use Rattle.m88_parse.specs.Language.Operands.{IsValue}
use Rattle.m88_parse.specs.Language.Pieces.{Piece}
use Rattle.m88_parse.specs.Language.Statements.{AreParted, IsBody, IsStatement}
use Rattle.m88_parse.specs.Language.Statements as statement
use Rattle.m88_parse.specs.Language.Units.{AreModules, AreRows, IsUnit, LineSays, says}
use Rattle.m88_parse.specs.Language.Units as units
use Rattle.m88_parse.specs.WellFormed.{IsFormedBody, IsFormedModule, IsFormedStatement, IsOfKind, IsWellFormed}
use Rattle.m88_parse.specs.declared.unit.Body.{Body}
use Rattle.m88_parse.specs.declared.unit.Module.{Module}
use Rattle.m88_parse.specs.declared.unit.Statement.{Statement}
use Rattle.m88_parse.specs.declared.unit.Unit.{Unit as Source}
use Rattle.m88_parse.specs.declared.unit.Value.{Value}
use Rattle.m88_parse.specs.declared.unit.Value.TheVariants.{Number, Symbol}
use Rattle.m88_parse.proofs.FormedOperands.{fixup_kind, operands_formed}

-- values of a kind
value_kind : (kind : Kind) (ps : List Piece) (v : Value) → IsValue kind ps v → IsOfKind kind v
value_kind kind ps (Number n) h = tt
value_kind kind ps (Symbol f) h = fixup_kind kind ps f h

values_kind : (kind : Kind) (ps : List Piece) (vs : List Value) → AreParted (IsValue kind) ps vs
    → All (IsOfKind kind) vs
values_kind kind ps _ (statement.one {x = x} h) =
    All-cons (IsOfKind kind) x [] (value_kind kind ps x h) (All-nil (IsOfKind kind))
values_kind kind ps _ (statement.more {front = front} {rest = rest} c {x = x} {xs = xs} parts h comma others) =
    All-cons (IsOfKind kind) x xs (value_kind kind front x h) (values_kind kind rest xs others)

-- what a statement says can be laid out
body_formed : (ps : List Piece) (b : Body) → IsBody ps b → IsFormedBody b
body_formed _ _ (statement.text named) = tt
body_formed _ _ (statement.data_section named) = tt
body_formed _ _ (statement.at named number small) = tt
body_formed _ _ (statement.word {ps = ps} {vs = vs} named parted) = values_kind Abs32 ps vs parted
body_formed _ _ (statement.half named parted) = tt
body_formed _ _ (statement.byte named parted) = tt
body_formed _ _ (statement.ascii named text) = tt
body_formed _ _ (statement.zeros named number small) = tt
body_formed _ _ (statement.align named number one) = one
body_formed _ _ (statement.global named symbol) = tt
body_formed _ _ (statement.set named symbol comma number) = tt
body_formed _ _ (statement.code {ps = ps} {instr = i} {fixup = fixup} named operands) = operands_formed ps i fixup operands

statement_formed : (line : ℕ) (ps : List Piece) (s : Statement) → IsStatement line ps s → IsFormedStatement s
statement_formed line _ _ (statement.unlabelled {p = p} {ps = ps} {said = said} body none) =
    body_formed (p ∷ ps) said body
statement_formed line _ _ (statement.labelled {p = p} {ps = ps} {said = said} label body) =
    body_formed (p ∷ ps) said body
statement_formed line _ _ (statement.label_alone label) = tt

said_formed : (line : ℕ) (ps : List Piece) (s : Statement) → LineSays line ps (says s) → IsFormedStatement s
said_formed line ps s (units.statement_line is) = statement_formed line ps s is

-- the number of statements of modules
abbrev statements_in : List Module → ℕ
statements_in ms = sum_by (λ m. length m.statements) ms

more_statements : (m : Module) (ms : List Module) → statements_in (m ∷ ms) ≡ length m.statements + statements_in ms
more_statements m ms = sum_by-cons (λ (x : Module). length x.statements) m ms

-- the rows of so many lines
record AreFormedRows (count : ℕ) (ss : List Statement) (ms : List Module) : Type 0 where
  front : All IsFormedStatement ss
  modules : All IsFormedModule ms
  few : length ss + statements_in ms ≤ count

rows_formed : (number : ℕ) (lines : List (List ℕ)) (ss : List Statement) (ms : List Module) → AreRows number lines ss ms
    → AreFormedRows (length lines) ss ms
rows_formed number _ _ _ units.no_row =
    record { front = All-nil IsFormedStatement; modules = All-nil IsFormedModule; few = omega arith }
rows_formed number _ _ _ (units.row_of_nothing {lines = lines} {ss = ss} {ms = ms} tokens said rest) =
    let r = rows_formed (number + 1) lines ss ms rest in
    record { front = r.front; modules = r.modules; few = omega (arith, r.few) }
rows_formed number _ _ _ (units.row_of_statement {lines = lines} {ps = ps} {s = s} {ss = ss} {ms = ms} tokens said rest) =
    let r = rows_formed (number + 1) lines ss ms rest in
    record {
      front = All-cons IsFormedStatement s ss (said_formed number ps s said) r.front;
      modules = r.modules;
      few = omega (arith, r.few);
    }
rows_formed number _ _ _ (units.row_of_module {lines = lines} {name = name} {ss = ss} {ms = ms} tokens said rest) =
    let r = rows_formed (number + 1) lines ss ms rest in
    let m : Module = record { name = name; line = number; statements = ss } in
    record {
      front = All-nil IsFormedStatement;
      modules = All-cons IsFormedModule m ms r.front r.modules;
      few = omega (arith, r.few, more_statements m ms);
    }

-- the modules of so many lines
record AreFormedModules (count : ℕ) (ms : List Module) : Type 0 where
  some : 0 < length ms
  few : statements_in ms ≤ count
  each : All IsFormedModule ms

modules_formed : (count : ℕ) (ss : List Statement) (ms ns : List Module) → AreModules ss ms ns
    → AreFormedRows count ss ms
    → AreFormedModules count ns
modules_formed count ss _ _ units.only_main r =
    let m : Module = record { name = codes "main"; line = 1; statements = ss } in
    record {
      some = omega arith;
      few = omega (arith, r.few, more_statements m []);
      each = All-cons IsFormedModule m [] r.front (All-nil IsFormedModule);
    }
modules_formed count _ _ _ (units.first_main {s = s} {ss = ss} {m = m} {ms = ms}) r =
    let first : Module = record { name = codes "main"; line = 1; statements = s ∷ ss } in
    record {
      some = omega arith;
      few = omega (arith, r.few, more_statements first (m ∷ ms));
      each = All-cons IsFormedModule first (m ∷ ms) r.front r.modules;
    }
modules_formed count _ _ _ (units.no_main {m = m} {ms = ms}) r =
    record { some = omega arith; few = omega (arith, r.few); each = r.modules }

-- an input has no more lines than bytes
on_first : (b : ℕ) (lines : List (List ℕ)) → length (on_first_line b lines) ≤ length lines + 1
on_first b [] = omega arith
on_first b (line ∷ lines) = omega arith

either_few : (t : Bool) (xs ys : List (List ℕ)) (n : ℕ) → length xs ≤ n → length ys ≤ n → length (cond t xs ys) ≤ n
either_few true xs ys n h k = h
either_few false xs ys n h k = k

pub lines_few : (bs : List ℕ) → length (lines_of bs) ≤ length bs
unfolding lines_of
lines_few [] = omega arith
lines_few (b ∷ bs) =
    let rest = lines_few bs in
    either_few (b == line_feed) ([] ∷ lines_of bs) _ (suc (length bs)) (omega (arith, rest))
    (either_few (b == carriage_return && begins_with_lf bs) (lines_of bs)
    (on_first_line b (lines_of bs)) (suc (length bs)) (omega (arith, rest))
    (omega (arith, rest, on_first b (lines_of bs))))

-- the unit of a source can be laid out
pub unit_formed : (source : List ℕ) (u : Source) → length source < 2 ^ 31 → IsUnit source u → IsWellFormed u
unit_formed source u short is =
    let rows = rows_formed 1 (lines_of source) is.statements is.modules is.are_rows in
    let all = modules_formed (length (lines_of source)) is.statements is.modules u.modules is.are_modules rows in
    let lines = lines_few source in
    record { some = all.some; few = omega (arith, all.few, lines, short); each = all.each }
