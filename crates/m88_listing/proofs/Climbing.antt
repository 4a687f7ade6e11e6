-- The statements of a source stand in lines of their own, in order, so each row is that of one line.
use Rattle.std.proofs.Common.{◌≡◌, ℕ, suc, ◌+◌, ◌<◌, ◌≤◌, Bool, true, false, inl, inr, List, [], ◌∷◌, ◌++◌, length, map, refl, sym, ap, ◌∙◌, subst, arith, Option, Some, None}
use Rattle.std.specs.Prelude.{◌==◌, flat_map, if◌then◌else◌, slice_get}
use Rattle.std.specs.List.{AllByRecursion, enumerate_from}
use Rattle.std.specs.Option.{option_map_or}
use Rattle.std.proofs.lemmas.Bool.{cases_order, cond-true, cond-false, eqb-true, eqb-false, ne_eqb}
use Rattle.m88_base.specs.Lines.{lines_of}
use Rattle.m88_base.specs.Placed.{Placed}
use Rattle.m88_parse.specs.Language.Pieces.{Piece}
use Rattle.m88_parse.specs.Language.Statements.{IsStatement}
use Rattle.m88_parse.specs.Language.Statements as statement
use Rattle.m88_parse.specs.Language.Units.{AreModules, AreRows, IsUnit, LineSays, says}
use Rattle.m88_parse.specs.Language.Units as units
use Rattle.m88_parse.specs.declared.unit.Body.{Body}
use Rattle.m88_parse.specs.declared.unit.Body.TheVariants as body
use Rattle.m88_parse.specs.declared.unit.Module.{Module}
use Rattle.m88_parse.specs.declared.unit.Statement.{Statement}
use Rattle.m88_parse.specs.declared.unit.Unit.{Unit as Source}
use Rattle.m88_link.specs.Bases.{Placement, stood_from, up_to_multiple}
use Rattle.m88_link.specs.declared.object.Symbol.{Symbol}
use Rattle.m88_asm.specs.Counters.{Counters, Located, after, at_begin, length_of}
use Rattle.m88_asm.specs.Objects.{labels_at, sets_at}
use Rattle.m88_asm.specs.Units.{address_in, based, section_length}
use Rattle.m88_listing.specs.Columns.{bare_line}
use Rattle.m88_listing.specs.Rows.{Row, lines_with, named_by, row_on, row_lines, shown_as}
use Rattle.m88_listing.specs.Inside.Slots.{Climb, kept_row, slots_from, slots_of, symbol_slot, walked}
use Rattle.m88_listing.specs.declared.slots.Slot.{Slot}

-- numbers climb from one on, and stay below another
abbrev NumbersClimb : ℕ → ℕ → List ℕ → Type 0
NumbersClimb from to [] = Unit {0}
NumbersClimb from to (n ∷ ns) = (from ≤ n) × (n < to) × NumbersClimb (n + 1) to ns

-- the lines of statements
line_numbers : List Statement → List ℕ
line_numbers ss = map (λ (s : Statement). s.line) ss

module_numbers : List Module → List ℕ
module_numbers ms = flat_map (λ (m : Module). line_numbers m.statements) ms

statement_line : (number : ℕ) (ps : List Piece) (s : Statement) → IsStatement number ps s → s.line ≡ number
statement_line number _ _ (statement.unlabelled is none) = refl
statement_line number _ _ (statement.labelled label is) = refl
statement_line number _ _ (statement.label_alone label) = refl

said_line : (number : ℕ) (ps : List Piece) (s : Statement) → LineSays number ps (says s) → s.line ≡ number
said_line number ps s (units.statement_line is) = statement_line number ps s is

lower : (low from to : ℕ) (ns : List ℕ) → low ≤ from → NumbersClimb from to ns → NumbersClimb low to ns
lower low from to [] l h = tt
lower low from to (n ∷ ns) l h = (omega (arith, l, h.0), h.1, h.2)

rows_climb : (number : ℕ) (lines : List (List ℕ)) (ss : List Statement) (ms : List Module) → AreRows number lines ss ms
    → NumbersClimb number (number + length lines) (line_numbers ss ++ module_numbers ms)
unfolding line_numbers module_numbers
rows_climb number _ _ _ units.no_row = tt
rows_climb number _ _ _ (units.row_of_nothing {lines = lines} {ss = ss} {ms = ms} tokens said rest) =
    let r = rows_climb (number + 1) lines ss ms rest in
    lower number (number + 1) _ _ (omega arith) (subst (λ to. NumbersClimb (number + 1) to (line_numbers ss ++ module_numbers ms)) (omega arith) r)
rows_climb number _ _ _ (units.row_of_statement {lines = lines} {ps = ps} {s = s} {ss = ss} {ms = ms} tokens said rest) =
    let r = rows_climb (number + 1) lines ss ms rest in
    let here : s.line ≡ number = said_line number ps s said in (
      omega (arith, here),
      omega (arith, here),
      subst (λ from. NumbersClimb from (number + suc (length lines)) (line_numbers ss ++ module_numbers ms)) (ap (λ n. n + 1) (sym here))
          (subst (λ to. NumbersClimb (number + 1) to (line_numbers ss ++ module_numbers ms)) (omega arith) r),
    )
rows_climb number _ _ _ (units.row_of_module {lines = lines} {ss = ss} {ms = ms} tokens said rest) =
    let r = rows_climb (number + 1) lines ss ms rest in
    lower number (number + 1) _ _ (omega arith) (subst (λ to. NumbersClimb (number + 1) to (line_numbers ss ++ module_numbers ms)) (omega arith) r)

modules_climb : (from to : ℕ) (ss : List Statement) (ms ns : List Module) → AreModules ss ms ns
    → NumbersClimb from to (line_numbers ss ++ module_numbers ms) → NumbersClimb from to (module_numbers ns)
unfolding line_numbers module_numbers
modules_climb from to ss _ _ units.only_main h = h
modules_climb from to _ _ _ units.first_main h = h
modules_climb from to _ _ _ units.no_main h = h

-- slots climb, as the statements that they are of, and stay below a number
abbrev SlotsClimb : ℕ → ℕ → List Slot → Type 0
SlotsClimb from to [] = Unit {0}
SlotsClimb from to (s ∷ ss) = (from ≤ s.line) × (s.line < to) × SlotsClimb (s.line + 1) to ss

pub climbs : (from to : ℕ) (ss : List Slot) → SlotsClimb from to ss → Climb from ss
climbs from to [] h = tt
climbs from to (s ∷ ss) h = (h.0, climbs (s.line + 1) to ss h.2)

lower_slots : (low from to : ℕ) (ss : List Slot) → low ≤ from → SlotsClimb from to ss → SlotsClimb low to ss
lower_slots low from to [] l h = tt
lower_slots low from to (s ∷ ss) l h = (omega (arith, l, h.0), h.1, h.2)

-- what a statement names stands in its line
abbrev AllIn : ℕ → List Symbol → Type 0
AllIn line symbols = AllByRecursion (λ (s : Symbol). s.line ≡ line) symbols

sets_in : (line : ℕ) (said : Body) → AllIn line (sets_at line said)
sets_in line (body.Set name col value) = (refl, tt)
sets_in line body.Empty = tt
sets_in line body.Text = tt
sets_in line body.DataSection = tt
sets_in line (body.At address) = tt
sets_in line (body.Word values) = tt
sets_in line (body.Half numbers) = tt
sets_in line (body.Byte bytes) = tt
sets_in line (body.Ascii bytes) = tt
sets_in line (body.Zero n) = tt
sets_in line (body.Align n) = tt
sets_in line (body.Global name) = tt
sets_in line (body.Code instr fixup) = tt

labels_in : (c : Counters) (line : ℕ) (label : Option (List ℕ × ℕ)) → AllIn line (labels_at c line label)
labels_in c line None = tt
labels_in c line (Some label) = (refl, tt)

first_in : (line : ℕ) (xs ys : List Symbol) (s : Symbol) → AllIn line xs → AllIn line ys → slice_get (xs ++ ys) 0 ≡ Some s → s.line ≡ line
first_in line [] [] s a b e = cc
first_in line [] (y ∷ ys) s a b e = let same : s ≡ y = cc in ap (λ (x : Symbol). x.line) same ∙ b.0
first_in line (x ∷ xs) ys s a b e = let same : s ≡ x = cc in ap (λ (x : Symbol). x.line) same ∙ a.0

named_line : (r : Located) (s : Symbol) → named_by r ≡ Some s → s.line ≡ r.statement.line
named_line r s e =
    first_in r.statement.line (sets_at r.statement.line r.statement.body) (labels_at r.before r.statement.line r.statement.label) s
    (sets_in r.statement.line r.statement.body) (labels_in r.before r.statement.line r.statement.label) e

from_climb : (b : Placement Module) (c : Counters) (xs : List Statement) (from to : ℕ) (rest : List ℕ) (more : List Slot)
    → NumbersClimb from to (line_numbers xs ++ rest) → ((f : ℕ) → NumbersClimb f to rest → SlotsClimb f to more) → SlotsClimb from to (slots_from b c xs ++ more)
unfolding line_numbers
from_climb b c [] from to rest more h next = next from h
from_climb b c (x ∷ xs) from to rest more h next = by (length_of r == 0) (from_climb b (after c x.body) xs (x.line + 1) to rest more h.2 next)
  where
    r : Located
    r = record { before = c; statement = x }

    slot : Slot
    slot = record { line = x.line; at = address_in b r; len = length_of r; shown = shown_as x.body }

    named : (o : Option Symbol) → named_by r ≡ o → SlotsClimb (x.line + 1) to (slots_from b (after c x.body) xs ++ more)
        → SlotsClimb from to ((option_map_or (λ s. symbol_slot b s ∷ []) o [] ++ slots_from b (after c x.body) xs) ++ more)
    named None e left = lower_slots from (x.line + 1) to _ (omega (arith, h.0)) left
    named (Some s) e left =
        let here : s.line ≡ x.line = named_line r s e in (
          omega (arith, here, h.0),
          omega (arith, here, h.1),
          subst (λ n. SlotsClimb (n + 1) to (slots_from b (after c x.body) xs ++ more)) (sym here) left,
        )

    by : (t : Bool) → SlotsClimb (x.line + 1) to (slots_from b (after c x.body) xs ++ more)
        → SlotsClimb from to (((if t then option_map_or (λ s. symbol_slot b s ∷ []) (named_by r) [] else slot ∷ []) ++ slots_from b (after c x.body) xs) ++ more)
    by true left = named (named_by r) refl left
    by false left = (h.0, h.1, left)

all_climb : (text datas from to : ℕ) (ms : List Module) → NumbersClimb from to (module_numbers ms) → SlotsClimb from to (slots_of (stood_from section_length text datas ms))
unfolding module_numbers
all_climb text datas from to [] h = tt
all_climb text datas from to (m ∷ ms) h =
    let b : Placement Module = record { part = m; text_at = up_to_multiple 8 text; data_at = up_to_multiple 8 datas } in
    from_climb b at_begin m.statements from to (module_numbers ms)
    (slots_of (stood_from section_length (up_to_multiple 8 text + section_length 0 m) (up_to_multiple 8 datas + section_length 1 m) ms)) h
    (λ f k. all_climb (up_to_multiple 8 text + section_length 0 m) (up_to_multiple 8 datas + section_length 1 m) f to ms k)

pub unit_climbs : (source : List ℕ) (u : Source) → IsUnit source u → SlotsClimb 1 (1 + length (lines_of source)) (slots_of (based u))
unit_climbs source u is =
    all_climb _ _ 1 (1 + length (lines_of source)) u.modules
    (modules_climb 1 (1 + length (lines_of source)) is.statements is.modules u.modules is.are_modules
    (rows_climb 1 (lines_of source) is.statements is.modules is.are_rows))

-- what is looked for by its line
pub not_here : (row : Row) (rows : List Row) (n : ℕ) → (row.line ≡ n → ⊥) → row_on (row ∷ rows) n ≡ row_on rows n
not_here row rows n differs = cond-false (row.line == n) (Some row) (row_on rows n) (ne_eqb row.line n differs)

just_here : (row : Row) (rows : List Row) (n : ℕ) → (row.line == n) ≡ true → row_on (row ∷ rows) n ≡ Some row
just_here row rows n e = cond-true (row.line == n) (Some row) (row_on rows n) e

none_below : (found : ℕ → Option ℕ) (from n : ℕ) (ss : List Slot) → Climb from ss → n < from → row_on (map (kept_row found) ss) n ≡ None
none_below found from n [] h l = refl
none_below found from n (s ∷ ss) h l =
    not_here (kept_row found s) (map (kept_row found) ss) n (λ e. absurd (omega (arith, e, h.0, l)))
    ∙ none_below found (s.line + 1) n ss h.1 (omega (arith, h.0, l))

-- what is done for each line by its row doesn't look at a row of an earlier line
passed_row : {A : Type 0} (f : ℕ × List ℕ → Option Row → List A) (row : Row) (rows : List Row) (n : ℕ) (lines : List (List ℕ)) → row.line < n
    → flat_map (λ (e : ℕ × List ℕ). f e (row_on (row ∷ rows) e.0)) (enumerate_from n lines)
    ≡ flat_map (λ (e : ℕ × List ℕ). f e (row_on rows e.0)) (enumerate_from n lines)
passed_row f row rows n [] l = refl
passed_row f row rows n (line ∷ lines) l =
    ap (λ o. f (n, line) o ++ flat_map (λ (e : ℕ × List ℕ). f e (row_on (row ∷ rows) e.0)) (enumerate_from (n + 1) lines))
    (not_here row rows n (λ e. absurd (omega (arith, e, l))))
    ∙ ap (λ xs. f (n, line) (row_on rows n) ++ xs) (passed_row f row rows (n + 1) lines (omega (arith, l)))

above : (n m : ℕ) → n ≤ m → (m ≡ n → ⊥) → n + 1 ≤ m
above n m l other = elim (cases_order m n) [
  | inl e ↦ absurd (other e)
  | inr (inl less) ↦ absurd (omega (arith, l, less))
  | inr (inr more) ↦ omega (arith, more)
]

-- the lines that are written one after the other are those of the listing
abbrev pub lined : ℕ × List ℕ → Option Row → List (List ℕ)
lined e o = option_map_or (row_lines e.0 e.1) o (bare_line e.0 e.1 ∷ [])

pub walked_from : (found : ℕ → Option ℕ) (n : ℕ) (lines : List (List ℕ)) (ss : List Slot) → Climb n ss
    → walked found n lines ss ≡ flat_map (λ (e : ℕ × List ℕ). lined e (row_on (map (kept_row found) ss) e.0)) (enumerate_from n lines)
walked_from found n [] ss h = refl
walked_from found n (line ∷ lines) [] h = ap (λ ls. bare_line n line ∷ ls) (walked_from found (n + 1) lines [] tt)
walked_from found n (line ∷ lines) (s ∷ ss) h =
    by (s.line == n) refl (λ k. walked_from found (n + 1) lines ss k) (λ k. walked_from found (n + 1) lines (s ∷ ss) k)
  where
    row : Row
    row = kept_row found s

    rows : List Row
    rows = map (kept_row found) ss

    rest : List Row → List (List ℕ)
    rest rs = flat_map (λ (e : ℕ × List ℕ). lined e (row_on rs e.0)) (enumerate_from (n + 1) lines)

    by : (t : Bool) → (s.line == n) ≡ t → (Climb (n + 1) ss → walked found (n + 1) lines ss ≡ rest rows)
        → (Climb (n + 1) (s ∷ ss) → walked found (n + 1) lines (s ∷ ss) ≡ rest (row ∷ rows))
        → (if t then row_lines n line row ++ walked found (n + 1) lines ss else bare_line n line ∷ walked found (n + 1) lines (s ∷ ss))
        ≡ lined (n, line) (row_on (row ∷ rows) n) ++ rest (row ∷ rows)
    by true e taken kept =
        let same : s.line ≡ n = eqb-true s.line n e in
        ap (λ ls. row_lines n line row ++ ls)
        (taken (subst (λ k. Climb (k + 1) ss) same h.1) ∙ sym (passed_row lined row rows (n + 1) lines (omega (arith, same))))
        ∙ ap (λ o. lined (n, line) o ++ rest (row ∷ rows)) (sym (just_here row rows n e))
    by false e taken kept =
        let other : (s.line ≡ n → ⊥) = eqb-false s.line n e in
        let more : n + 1 ≤ s.line = above n s.line h.0 other in
        ap (λ ls. bare_line n line ∷ ls) (kept (more, h.1))
        ∙ ap (λ o. lined (n, line) o ++ rest (row ∷ rows))
        (sym (not_here row rows n other ∙ none_below found (s.line + 1) n ss h.1 (omega (arith, h.0))))

pub walked_lines : (found : ℕ → Option ℕ) (source : List ℕ) (ss : List Slot) → Climb 1 ss
    → walked found 1 (lines_of source) ss ≡ flat_map (lines_with (map (kept_row found) ss)) (enumerate_from 1 (lines_of source))
walked_lines found source ss h = walked_from found 1 (lines_of source) ss h

-- each row is shown by one line
abbrev pub shown : Option Row → List Placed
shown o = option_map_or (λ (row : Row). row.run ∷ []) o []

pub shown_all : (found : ℕ → Option ℕ) (n : ℕ) (lines : List (List ℕ)) (ss : List Slot) → SlotsClimb n (n + length lines) ss
    → flat_map (λ (e : ℕ × List ℕ). shown (row_on (map (kept_row found) ss) e.0)) (enumerate_from n lines) ≡ map (λ (row : Row). row.run) (map (kept_row found) ss)
shown_all found n [] [] h = refl
shown_all found n [] (s ∷ ss) h = absurd (omega (arith, h.0, h.1))
shown_all found n (line ∷ lines) [] h = shown_all found (n + 1) lines [] tt
shown_all found n (line ∷ lines) (s ∷ ss) h =
    by (s.line == n) refl (λ k. shown_all found (n + 1) lines ss k) (λ k. shown_all found (n + 1) lines (s ∷ ss) k)
  where
    row : Row
    row = kept_row found s

    rows : List Row
    rows = map (kept_row found) ss

    rest : List Row → List Placed
    rest rs = flat_map (λ (e : ℕ × List ℕ). shown (row_on rs e.0)) (enumerate_from (n + 1) lines)

    runs : List Row → List Placed
    runs rs = map (λ (x : Row). x.run) rs

    by : (t : Bool) → (s.line == n) ≡ t → (SlotsClimb (n + 1) (n + 1 + length lines) ss → rest rows ≡ runs rows)
        → (SlotsClimb (n + 1) (n + 1 + length lines) (s ∷ ss) → rest (row ∷ rows) ≡ row.run ∷ runs rows)
        → shown (row_on (row ∷ rows) n) ++ rest (row ∷ rows) ≡ row.run ∷ runs rows
    by true e taken kept =
        let same : s.line ≡ n = eqb-true s.line n e in
        ap (λ o. shown o ++ rest (row ∷ rows)) (just_here row rows n e)
        ∙ ap (λ ps. row.run ∷ ps)
        (passed_row (λ e o. shown o) row rows (n + 1) lines (omega (arith, same))
        ∙ taken (subst (λ to. SlotsClimb (n + 1) to ss) (omega arith) (subst (λ k. SlotsClimb (k + 1) (n + suc (length lines)) ss) same h.2)))
    by false e taken kept =
        let other : (s.line ≡ n → ⊥) = eqb-false s.line n e in
        let more : n + 1 ≤ s.line = above n s.line h.0 other in
        ap (λ o. shown o ++ rest (row ∷ rows))
        (not_here row rows n other ∙ none_below found (s.line + 1) n ss (climbs (s.line + 1) _ ss h.2) (omega (arith, h.0)))
        ∙ kept (more, omega (arith, h.1), subst (λ to. SlotsClimb (s.line + 1) to ss) (omega arith) h.2)
