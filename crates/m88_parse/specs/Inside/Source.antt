-- A source as its unit: its lines, what each says, and the modules of what they say.
use Rattle.std.specs.Prelude.{ℕ, ◌+◌, Bool, false, List, [], ◌∷◌, length, if◌then◌else◌, Option, Some, None, Result, Ok}
use lib.Chars.{codes}
use Rattle.m88_base.specs.Lines.{lines_of}
use Rattle.m88_isa.specs.Letters.{mnemonic_of}
use Rattle.m88_isa.specs.declared.mnemonic.Mnemonic.{Mnemonic}
use Rattle.m88_parse.specs.declared.fault.ParseFault.{ParseFault}
use Rattle.m88_parse.specs.declared.fault.ParseKind.TheVariants.{Syntax, NoSuchName}
use Rattle.m88_parse.specs.declared.directive.Directive.{Directive}
use Rattle.m88_parse.specs.declared.unit.Body.{Body}
use Rattle.m88_parse.specs.declared.unit.Body.TheVariants.{Empty}
use Rattle.m88_parse.specs.declared.unit.Statement.{Statement}
use Rattle.m88_parse.specs.declared.unit.Module.{Module}
use Rattle.m88_parse.specs.declared.unit.Unit.{Unit as Source}
use Rattle.m88_parse.specs.Inside.Names.{is_module}
use Rattle.m88_parse.specs.Inside.Tokens.{pieces_of}
use Rattle.m88_parse.specs.Language.Bytes.{colon_mark}
use Rattle.m88_parse.specs.Language.Pieces.{TokenValue, a_name, Piece}
use Rattle.m88_parse.specs.Inside.State.{ReaderState, first, second, place, past, trouble, is_mark_of, ◌>>=◌}
use Rattle.m88_parse.specs.Inside.Slots.{symbol_at, any_name_at, line_end_at}
use Rattle.m88_parse.specs.Inside.Shapes.{shape_of}
use Rattle.m88_parse.specs.Inside.Directives.{directive_of}
use Rattle.m88_parse.specs.Inside.Grammar.{Form, read, form_of, directive_form}

-- what a line says: a statement, or the name of a module that begins and the number of its line
pub data SourceRow : Type 0 where
  a_statement : Statement → SourceRow
  a_head : List ℕ → ℕ → SourceRow

-- the form of a mnemonic
abbrev pub instruction_form : Mnemonic → Form
instruction_form m = form_of (shape_of m)

-- the form of a mnemonic, or else of a directive
abbrev pub form_in : Option Mnemonic → Option Directive → Option Form
form_in (Some m) d = Some (instruction_form m)
form_in None (Some d) = Some (directive_form d)
form_in None None = None

-- the form of an operation, by its name
abbrev pub form_named : List ℕ → Option Form
form_named name = form_in (mnemonic_of name) (directive_of name)

-- an operation by its form, where its name has one
abbrev pub by_form : ReaderState → Option Form → Result Body ParseFault
by_form s (Some form) = read form (past s)
by_form s None = trouble NoSuchName s

-- an operation, by what stands there; a module has no label, so .module is none
abbrev pub operation_on : ReaderState → Option TokenValue → Result Body ParseFault
operation_on s (Some (a_name name)) = if is_module name then trouble Syntax s else by_form s (form_named name)
operation_on s _ = trouble Syntax s

-- an operation and its operands, to the end of the line
unfoldable pub operation_at : ReaderState → Result Body ParseFault
operation_at s = operation_on s (first s)

-- a line that is a statement
abbrev pub statement : ReaderState → Option (List ℕ × ℕ) → ℕ → Body → SourceRow
statement s label col b = a_statement (record { line = s.line; label = label; col = col; body = b })

-- a label alone, or the operation behind it
abbrev pub labelled_on : ReaderState → (List ℕ × ℕ) → Option TokenValue → Result SourceRow ParseFault
labelled_on s label None = Ok (statement s (Some label) label.1 Empty)
labelled_on s label (Some _) = operation_at s >>= λ b. Ok (statement s (Some label) (place s) b)

-- a label, the colon behind it, and the operation if there is one
unfoldable pub labelled_at : ReaderState → Result SourceRow ParseFault
labelled_at s = symbol_at s >>= λ label. labelled_on (past label.1) label.0 (first (past label.1))

-- an operation with no label
abbrev pub unlabelled_at : ReaderState → Result SourceRow ParseFault
unlabelled_at s = operation_at s >>= λ b. Ok (statement s None (place s) b)

-- a module's head: any name
unfoldable pub head_at : ReaderState → Result SourceRow ParseFault
head_at s = do
  name ← any_name_at (past s)
  end ← line_end_at name.1
  Ok (a_head name.0 s.line)

-- a name with a colon behind it is a label
abbrev pub is_label_on : Option TokenValue → Option TokenValue → Bool
is_label_on (Some (a_name _)) next = is_mark_of colon_mark next
is_label_on _ next = false

-- a module begins by its name
abbrev pub is_head_on : Option TokenValue → Bool
is_head_on (Some (a_name name)) = is_module name
is_head_on _ = false

-- what a line with a token says
unfoldable pub row_at : ReaderState → Result SourceRow ParseFault
row_at s =
    if is_label_on (first s) (second s) then labelled_at s
    else (if is_head_on (first s) then head_at s else unlabelled_at s)

-- the column just after the last token
abbrev pub end_of_line : List Piece → ℕ
end_of_line [] = 1
end_of_line (p ∷ []) = p.col + length p.text
end_of_line (p ∷ q ∷ ps) = end_of_line (q ∷ ps)

-- what the tokens of a line say, if there is one
abbrev pub row_of_pieces : ℕ → List Piece → Result (Option SourceRow) ParseFault
row_of_pieces line [] = Ok None
row_of_pieces line (p ∷ ps) =
    row_at (record { line = line; end_col = end_of_line (p ∷ ps); rest = p ∷ ps }) >>= λ r. Ok (Some r)

-- what a line says, if it has a token: it is cut into tokens whole before its statement is read
unfoldable pub row_of_line : ℕ → List ℕ → Result (Option SourceRow) ParseFault
row_of_line line bytes = pieces_of line bytes >>= λ ps. row_of_pieces line ps

-- a row more in front, if there is one
abbrev pub with_row : Option SourceRow → List SourceRow → List SourceRow
with_row None rows = rows
with_row (Some r) rows = r ∷ rows

-- what the lines say, the first of them with this number; the first fault counts
unfoldable pub rows_of : ℕ → List (List ℕ) → Result (List SourceRow) ParseFault
rows_of number [] = Ok []
rows_of number (line ∷ lines) = do
  r ← row_of_line number line
  rows ← rows_of (number + 1) lines
  Ok (with_row r rows)

-- the statements up to the first head, and the modules from there on
unfoldable pub grouped : List SourceRow → List Statement × List Module
grouped [] = ([], [])
grouped (a_statement x ∷ rows) = (x ∷ (grouped rows).0, (grouped rows).1)
grouped (a_head name line ∷ rows) =
    ([], record { name = name; line = line; statements = (grouped rows).0 } ∷ (grouped rows).1)

-- the module main of these statements
abbrev pub main_with : List Statement → Module
main_with statements = record { name = codes "main"; line = 1; statements = statements }

-- statements before the first head, or no head at all, are a module main
abbrev pub modules_in : List Statement → List Module → List Module
modules_in [] (m ∷ ms) = m ∷ ms
modules_in statements modules = main_with statements ∷ modules

-- the unit of the rows of a source
abbrev pub unit_of_rows : List SourceRow → Source
unit_of_rows rows = record { modules = modules_in (grouped rows).0 (grouped rows).1 }

-- the unit of a source, or its first fault
unfoldable pub unit_of : List ℕ → Result Source ParseFault
unit_of source = rows_of 1 (lines_of source) >>= λ rows. Ok (unit_of_rows rows)
