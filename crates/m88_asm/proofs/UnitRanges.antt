-- The names, numbers and bytes in the unit of a source that is not too long are such as the text of an object can give.
use Rattle.std.proofs.Common.{ℕ, ℤ, ◌+◌, ◌-◌, ◌<◌, ◌≤◌, ◌^◌, inl, inr, codes, List, [], ◌∷◌, ◌++◌, Option, length, refl, sym, subst, arith}
use Rattle.std.specs.Prelude.{IfSome}
use Rattle.std.specs.List.{AllByRecursion}
use Rattle.std.proofs.lemmas.List.Sums.{AllPass-from_list_all}
use Rattle.std.proofs.lemmas.Nat.{mod_below}
use Rattle.m88_base.specs.Lines.{lines_of}
use Rattle.m88_base.specs.Name.{IsName, continues_name}
use Rattle.m88_base.specs.declared.fixup.Fixup.{Fixup}
use Rattle.m88_base.specs.declared.fixup.Kind.{Kind}
use Rattle.m88_base.specs.declared.fixup.Kind.TheVariants.{Hi16, Lo16, Pc26, Pc16, Abs32}
use Rattle.m88_base.specs.declared.reg.Reg.{Reg}
use Rattle.m88_isa.specs.declared.instr.Instr.{Instr}
use Rattle.m88_link.proofs.Laws.{all_of_front}
use Rattle.m88_parse.specs.Language.Operands.{AreOperands, Behind, IsAddend, IsFixup, IsGoal, IsHalfOf, IsImmediate, IsSigned, IsSymbolOf, IsValue}
use Rattle.m88_parse.specs.Language.Operands as operand
use Rattle.m88_parse.specs.Language.Pieces.{Piece}
use Rattle.m88_parse.specs.Language.Statements.{AreParted, IsBody, IsHead, IsStatement}
use Rattle.m88_parse.specs.Language.Statements as statement
use Rattle.m88_parse.specs.Language.Tokens.{LineTokens}
use Rattle.m88_parse.specs.Language.Units.{AreModules, AreRows, IsUnit, LineSays, begins, says}
use Rattle.m88_parse.specs.Language.Units as units
use Rattle.m88_parse.specs.declared.unit.Body.{Body}
use Rattle.m88_parse.specs.declared.unit.Body.TheVariants as body
use Rattle.m88_parse.specs.declared.unit.Module.{Module}
use Rattle.m88_parse.specs.declared.unit.Statement.{Statement}
use Rattle.m88_parse.specs.declared.unit.Unit.{Unit as Source}
use Rattle.m88_parse.specs.declared.unit.Value.{Value}
use Rattle.m88_parse.specs.declared.unit.Value.TheVariants.{Number, Symbol}
use Rattle.m88_parse.proofs.Laws.{AreShort, AreSmall, IsInLine, lines_few, lines_short, signed_small, tokens_in_line}

-- a fixup whose parts are in range
pub record IsRangedFixup (f : Fixup) : Type 0 where
  pub name : IsName f.symbol
  pub addend : f.addend < 2 ^ 32
  pub col : f.col < 2 ^ 32

-- so are those of a value
abbrev pub IsRangedValue : Value → Type 0
IsRangedValue (Number n) = Unit {0}
IsRangedValue (Symbol f) = IsRangedFixup f

-- of a body
abbrev pub IsRangedBody : Body → Type 0
IsRangedBody (body.At n) = n < 2 ^ 32
IsRangedBody (body.Word values) = AllByRecursion IsRangedValue values
IsRangedBody (body.Byte bytes) = AreSmall bytes
IsRangedBody (body.Ascii bytes) = AreSmall bytes
IsRangedBody (body.Set name col n) = IsName name × (col < 2 ^ 32) × (n < 2 ^ 32)
IsRangedBody (body.Code i fixup) = IfSome fixup IsRangedFixup
IsRangedBody _ = Unit {0}

-- of a statement
pub record IsRangedStatement (s : Statement) : Type 0 where
  pub line : s.line < 2 ^ 32
  pub label : IfSome s.label (λ l. IsName l.0 × (l.1 < 2 ^ 32))
  pub body : IsRangedBody s.body

-- and of a module
pub record IsRangedModule (m : Module) : Type 0 where
  pub name : IsName m.name
  pub line : m.line < 2 ^ 32
  pub statements : AllByRecursion IsRangedStatement m.statements

-- tokens in a line
abbrev InLine : List Piece → Type 0
InLine ps = AllByRecursion IsInLine ps

rest_in_line : (xs : List Piece) (c : Piece) (ys : List Piece) → InLine (xs ++ c ∷ ys) → InLine ys
rest_in_line [] c ys h = h.1
rest_in_line (x ∷ xs) c ys h = rest_in_line xs c ys h.1

-- symbols
symbol_ranged : (kind : Kind) (f : Fixup) (p : Piece) → IsSymbolOf kind f p → IsInLine p → f.addend < 2 ^ 32
    → IsRangedFixup f
symbol_ranged kind f p h line small =
    record { name = h.1.1.valid; addend = small; col = subst (λ n. n < 2 ^ 32) (sym h.2) line.col }

addend_small : (a : ℕ) (m p : Piece) → IsAddend a m p → a < 2 ^ 32
addend_small a m p (n, number, small, inl h) = omega (arith, h.1, small)
addend_small a m p (n, number, small, inr h) =
    subst (λ k. k < 2 ^ 32) (sym h.1) (mod_below (2 ^ 32 - n) (2 ^ 32) (omega arith))

fixup_ranged : (kind : Kind) (ps : List Piece) (f : Fixup) → InLine ps → IsFixup kind ps f → IsRangedFixup f
fixup_ranged kind [] f line h = absurd h
fixup_ranged kind (s ∷ []) f line h = symbol_ranged kind f s h.0 line.0 (omega (arith, h.1))
fixup_ranged kind (s ∷ m ∷ []) f line h = absurd h
fixup_ranged kind (s ∷ m ∷ p ∷ []) f line h = symbol_ranged kind f s h.0 line.0 (addend_small f.addend m p h.1)
fixup_ranged kind (s ∷ m ∷ p ∷ q ∷ ps) f line h = absurd h

value_ranged : (kind : Kind) (ps : List Piece) (v : Value) → InLine ps → IsValue kind ps v → IsRangedValue v
value_ranged kind ps (Number n) line h = tt
value_ranged kind ps (Symbol f) line h = fixup_ranged kind ps f line h

values_ranged : (kind : Kind) (ps : List Piece) (vs : List Value) → InLine ps → AreParted (IsValue kind) ps vs
    → AllByRecursion IsRangedValue vs
values_ranged kind ps _ line (statement.one {x = x} h) = (value_ranged kind ps x line h, tt)
values_ranged kind ps _ line (statement.more {front = front} {rest = rest} c {x = x} {xs = xs} parts h comma others) =
    let all : InLine (front ++ c ∷ rest) = subst InLine parts line in (
      value_ranged kind front x (all_of_front IsInLine front (c ∷ rest) all) h,
      values_ranged kind rest xs (rest_in_line front c rest all) others,
    )

bytes_ranged : (ps : List Piece) (ns : List ℕ) → AreParted (IsSigned (2 ^ 8)) ps ns → AreSmall ns
bytes_ranged ps _ (statement.one {x = x} h) = (signed_small (2 ^ 8) ps x (omega arith) h, tt)
bytes_ranged ps _ (statement.more {front = front} {rest = rest} c {x = x} {xs = xs} parts h comma others) =
    (signed_small (2 ^ 8) front x (omega arith) h, bytes_ranged rest xs others)

-- operands
abbrev Waiting : Option Fixup → Type 0
Waiting fixup = IfSome fixup IsRangedFixup

half_ranged : (kind : Kind) (ps : List Piece) (v : Value) (imm : ℕ) (fixup : Option Fixup) → InLine ps
    → IsValue kind ps v
    → IsHalfOf kind v imm fixup → Waiting fixup
half_ranged Hi16 ps (Number n) imm fixup line value h = subst Waiting (sym h.1) tt
half_ranged Lo16 ps (Number n) imm fixup line value h = subst Waiting (sym h.1) tt
half_ranged Pc26 ps (Number n) imm fixup line value h = absurd h
half_ranged Pc16 ps (Number n) imm fixup line value h = absurd h
half_ranged Abs32 ps (Number n) imm fixup line value h = absurd h
half_ranged kind ps (Symbol f) imm fixup line value h = subst Waiting (sym h.1) (fixup_ranged kind ps f line value)

immediate_ranged : (ps : List Piece) (imm : ℕ) (fixup : Option Fixup) → InLine ps → IsImmediate ps imm fixup
    → Waiting fixup
immediate_ranged _ imm _ line (operand.short number small) = tt
immediate_ranged _ imm fixup line (operand.half inside c name kind v named is opened parts value closed halves) =
    half_ranged kind inside v imm fixup (all_of_front IsInLine inside (c ∷ []) (subst InLine parts line.1.1)) value halves

goal_ranged : (kind : Kind) (width : ℕ) (ps : List Piece) (words : ℤ) (fixup : Option Fixup) → InLine ps
    → IsGoal kind width ps words fixup
    → Waiting fixup
goal_ranged kind width ps words _ line (operand.place h) = tt
goal_ranged kind width ps _ _ line (operand.symbol {f = f} h) = fixup_ranged kind ps f line h

behind : (r : Reg) (ps rest : List Piece) → Behind r ps rest → InLine ps → InLine rest
behind r ps rest b line = (subst InLine b.tokens line).1.1

operands_ranged : (ps : List Piece) (i : Instr) (fixup : Option Fixup) → InLine ps
    → AreOperands ps i fixup → Waiting fixup
operands_ranged ps i fixup line (operand.immediate {d = d} {s1 = s1} {qs = qs} {rest = rest} {imm = imm} a b h) =
    immediate_ranged rest imm fixup (behind s1 qs rest b (behind d ps qs a line)) h
operands_ranged ps i fixup line (operand.registers a b h) = tt
operands_ranged ps i fixup line (operand.offset {d = d} {s1 = s1} {qs = qs} {rest = rest} {imm = imm} a b h) =
    immediate_ranged rest imm fixup (behind s1 qs rest b (behind d ps qs a line)) h
operands_ranged ps i fixup line (operand.index a b h) = tt
operands_ranged ps i fixup line (operand.scaled a b h) = tt
operands_ranged ps i fixup line (operand.address a b h) = tt
operands_ranged ps i fixup line (operand.literal a b h) = tt
operands_ranged ps i fixup line (operand.field a b h) = tt
operands_ranged ps i fixup line (operand.find a h) = tt
operands_ranged ps i fixup line (operand.branch {words = words} h) = goal_ranged Pc26 25 ps words fixup line h
operands_ranged _ i fixup line (operand.branch_bit {s1 = s1} {ps = ps} {rest = rest} {words = words} is comma b h) =
    goal_ranged Pc16 15 rest words fixup (behind s1 ps rest b line.1.1) h
operands_ranged _ i fixup line (operand.branch_condition {s1 = s1} {ps = ps} {rest = rest} {words = words} is comma b h) =
    goal_ranged Pc16 15 rest words fixup (behind s1 ps rest b line.1.1) h
operands_ranged ps i fixup line (operand.jump h) = tt
operands_ranged ps i fixup line (operand.trap_bit is comma b number small) = tt
operands_ranged ps i fixup line (operand.trap_condition is comma b number small) = tt
operands_ranged ps i fixup line (operand.bound_number b number small) = tt
operands_ranged ps i fixup line (operand.bound_register b h) = tt
operands_ranged ps i fixup line operand.return = tt
operands_ranged ps i fixup line (operand.control_load b h) = tt
operands_ranged ps i fixup line (operand.control_store b h) = tt
operands_ranged ps i fixup line (operand.control_exchange a b h) = tt

-- statements
body_ranged : (ps : List Piece) (b : Body) → InLine ps → IsBody ps b → IsRangedBody b
body_ranged _ _ line (statement.text named) = tt
body_ranged _ _ line (statement.data_section named) = tt
body_ranged _ _ line (statement.at named number small) = small
body_ranged _ _ line (statement.word {ps = ps} {vs = vs} named parted) = values_ranged Abs32 ps vs line.1 parted
body_ranged _ _ line (statement.half named parted) = tt
body_ranged _ _ line (statement.byte {ps = ps} {ns = ns} named parted) = bytes_ranged ps ns parted
body_ranged _ _ line (statement.ascii {bytes = bytes} named text) = line.1.0.text bytes text
body_ranged _ _ line (statement.zeros named number small) = tt
body_ranged _ _ line (statement.align named number one) = tt
body_ranged _ _ line (statement.global named symbol) = tt
body_ranged _ _ line (statement.set {ps = ps} {n = n} named symbol comma number) =
    (symbol.1.valid, line.1.0.col, signed_small (2 ^ 32) ps n (omega arith) number)
body_ranged _ _ line (statement.code {ps = ps} {instr = i} {fixup = fixup} named operands) =
    operands_ranged ps i fixup line.1 operands

statement_ranged : (number : ℕ) (ps : List Piece) (s : Statement) → number < 2 ^ 32 → InLine ps
    → IsStatement number ps s → IsRangedStatement s
statement_ranged number _ _ small line (statement.unlabelled {p = p} {ps = ps} {said = said} is none) =
    record { line = small; label = tt; body = body_ranged (p ∷ ps) said line is }
statement_ranged number _ _ small line (statement.labelled {p = p} {ps = ps} {said = said} label is) =
    record { line = small; label = (label.symbol.1.valid, line.0.col); body = body_ranged (p ∷ ps) said line.1.1 is }
statement_ranged number _ _ small line (statement.label_alone label) =
    record { line = small; label = (label.symbol.1.valid, line.0.col); body = tt }

said_ranged : (number : ℕ) (ps : List Piece) (s : Statement) → number < 2 ^ 32 → InLine ps
    → LineSays number ps (says s) → IsRangedStatement s
said_ranged number ps s small line (units.statement_line is) = statement_ranged number ps s small line is

head_name : (ps : List Piece) (name : List ℕ) → IsHead ps name → IsName name
head_name _ name (statement.head named is valid) = valid

said_name : (number : ℕ) (ps : List Piece) (name : List ℕ) → LineSays number ps (begins name) → IsName name
said_name number ps name (units.module_line is) = head_name ps name is

-- the rows of lines that are not too long
record AreRangedRows (ss : List Statement) (ms : List Module) : Type 0 where
  front : AllByRecursion IsRangedStatement ss
  modules : AllByRecursion IsRangedModule ms

in_line : (n : ℕ) (line : List ℕ) (ps : List Piece) → n < 2 ^ 31 → length line ≤ n → LineTokens line ps → InLine ps
in_line n line ps short here tokens = tokens_in_line 1 line ps (omega (arith, short, here)) tokens

rows_ranged : (n number : ℕ) (lines : List (List ℕ)) (ss : List Statement) (ms : List Module) → n < 2 ^ 31
    → number + length lines < 2 ^ 32
    → AreShort n lines → AreRows number lines ss ms → AreRangedRows ss ms
rows_ranged n number _ _ _ short low each units.no_row = record { front = tt; modules = tt }
rows_ranged n number _ _ _ short low each (units.row_of_nothing {lines = lines} {ss = ss} {ms = ms} tokens said rest) =
    rows_ranged n (number + 1) lines ss ms short (omega (arith, low)) each.1 rest
rows_ranged n number _ _ _ short low each (units.row_of_statement {line = line} {lines = lines} {ps = ps} {s = s} {ss = ss} {ms = ms} tokens said rest) =
    let r = rows_ranged n (number + 1) lines ss ms short (omega (arith, low)) each.1 rest in
    record {
      front = (said_ranged number ps s (omega (arith, low)) (in_line n line ps short each.0 tokens) said, r.front);
      modules = r.modules;
    }
rows_ranged n number _ _ _ short low each (units.row_of_module {lines = lines} {ps = ps} {name = name} {ss = ss} {ms = ms} tokens said rest) =
    let r = rows_ranged n (number + 1) lines ss ms short (omega (arith, low)) each.1 rest in
    record {
      front = tt;
      modules = (
        record { name = said_name number ps name said; line = omega (arith, low); statements = r.front },
        r.modules,
      );
    }

main_name : IsName (codes "main")
main_name = (refl, AllPass-from_list_all continues_name (codes "ain") refl, omega arith)

modules_ranged : (ss : List Statement) (ms ns : List Module) → AreModules ss ms ns → AreRangedRows ss ms
    → AllByRecursion IsRangedModule ns
modules_ranged ss _ _ units.only_main r = (record { name = main_name; line = omega arith; statements = r.front }, tt)
modules_ranged _ _ _ units.first_main r =
    (record { name = main_name; line = omega arith; statements = r.front }, r.modules)
modules_ranged _ _ _ units.no_main r = r.modules

pub unit_ranged : (source : List ℕ) (u : Source) → length source < 2 ^ 31 → IsUnit source u
    → AllByRecursion IsRangedModule u.modules
unit_ranged source u short is =
    let lines = lines_of source in
    let few : 1 + length lines < 2 ^ 32 = omega (arith, short, lines_few source) in
    modules_ranged is.statements is.modules u.modules is.are_modules
    (rows_ranged (length source) 1 lines is.statements is.modules short few (lines_short source) is.are_rows)
