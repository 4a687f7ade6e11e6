-- What each statement of a unit puts where, or else what it names, and the lines of the listing that show it.
use Rattle.std.specs.Prelude.{ℕ, ◌+◌, ◌*◌, ◌==◌, if◌then◌else◌, List, [], ◌∷◌, ◌++◌, codes, decimal, drop, find, flat_map, length, map, slice_get, take, Option}
use Rattle.std.specs.List.{enumerate_from}
use Rattle.std.specs.Option.{option_map_or}
use Rattle.m88_base.specs.Hex.{hex2, hex8}
use Rattle.m88_base.specs.Lines.{lines_of}
use Rattle.m88_base.specs.Pieces.{pieces}
use Rattle.m88_base.specs.Placed.{Placed}
use Rattle.m88_parse.specs.declared.unit.Body.{Body}
use Rattle.m88_parse.specs.declared.unit.Body.TheVariants.{Zero, Align}
use Rattle.m88_parse.specs.declared.unit.Unit.{Unit as Source}
use Rattle.m88_link.specs.Symbols.{value_in}
use Rattle.m88_link.specs.declared.object.Symbol.{Symbol}
use Rattle.m88_asm.specs.Counters.{Located, length_of}
use Rattle.m88_asm.specs.Images.{run_of}
use Rattle.m88_asm.specs.Objects.{labels_at, lines_in, sets_at}
use Rattle.m88_link.specs.Bases.{Placement}
use Rattle.m88_parse.specs.declared.unit.Module.{Module}
use Rattle.m88_asm.specs.Units.{base_in, based, unit_layout}
use Rattle.m88_listing.specs.Columns.{bare_line, columns, further_columns, most_shown}
use Rattle.m88_listing.specs.declared.slots.Shown.{Shown}
use Rattle.m88_listing.specs.declared.slots.Shown.TheVariants.{Bytes, Value, Zeros}

-- what a line shows of its statement: the line, bytes from an address on, and how they are told; or no byte, and in the
-- place of the address the value of a symbol
pub record Row : Type 0 where
  pub line : ℕ
  pub run : Placed
  pub shown : Shown

-- the zeros of `.zero` and the padding of `.align` are told as a count
abbrev pub shown_as : Body → Shown
shown_as (Zero n) = Zeros
shown_as (Align n) = Zeros
shown_as _ = Bytes

-- the row of a statement that gives bytes, its symbols replaced
abbrev pub row_of : List Symbol → Placement Module → Located → Row
row_of globals b r =
    record { line = r.statement.line; run = run_of globals b r; shown = shown_as r.statement.body }

-- what a statement names that gives no byte: its `.set`, or else its label
abbrev pub named_by : Located → Option Symbol
named_by r =
    slice_get (sets_at r.statement.line r.statement.body ++ labels_at r.before r.statement.line r.statement.label) 0

-- the row of a symbol: no byte, and its value, which is an address where it stands in a section
abbrev pub symbol_row : Placement Module → Symbol → Row
symbol_row b s = record {
  line = s.line;
  run = record { at = value_in (base_in b) s; bytes = [] };
  shown = option_map_or (λ _. Bytes) s.section Value;
}

-- the row of a statement: with its bytes, or where it gives none that of what it names
abbrev pub rows_of_statement : List Symbol → Placement Module → Located → List Row
rows_of_statement globals b r =
    if length_of r == 0 then option_map_or (λ s. symbol_row b s ∷ []) (named_by r) [] else row_of globals b r ∷ []

-- the rows of the statements of a module
abbrev pub rows_in : List Symbol → Placement Module → List Row
rows_in globals b = flat_map (rows_of_statement globals b) (lines_in b.part)

-- the rows of the statements of a unit
abbrev pub rows_of_unit : Source → List Row
rows_of_unit u = flat_map (rows_in (unit_layout u).globals) (based u)

-- the row of the statement in a line, where the line has one with a row
abbrev pub row_on : List Row → ℕ → Option Row
row_on rows number = find (λ row. row.line == number) rows

-- bytes in two digits each
abbrev pub digits : List ℕ → List ℕ
digits bytes = flat_map hex2 bytes

-- bytes in the column of bytes: the first eight, or how many zeros; of a value a sign that it is none
abbrev pub first_of_run : Shown → List ℕ → List ℕ
first_of_run Bytes bytes = digits (take most_shown bytes)
first_of_run Zeros bytes = codes "00 x " ++ decimal (length bytes)
first_of_run Value bytes = codes "="

-- what the first line shows of a row in the column of bytes
abbrev pub first_bytes : Row → List ℕ
first_bytes row = first_of_run row.shown row.run.bytes

-- the line of a piece of eight bytes of a run from an address on, by its number, counted from 0
abbrev pub further_line : ℕ → ℕ × List ℕ → List ℕ
further_line at numbered = further_columns (hex8 (at + numbered.0 * most_shown)) (digits numbered.1)

-- the lines of bytes of such a run, one for each piece of eight, from a number on
abbrev pub further_from : ℕ → ℕ → List ℕ → List (List ℕ)
further_from at number bytes = map (further_line at) (enumerate_from number (pieces most_shown bytes))

-- the lines that show the bytes behind the first eight of a run
abbrev pub further_of_run : Shown → Placed → List (List ℕ)
further_of_run Bytes run = further_from run.at 1 (drop most_shown run.bytes)
further_of_run _ run = []

-- the lines that show the bytes of a row behind the first eight, where they are told one by one
abbrev pub further_lines : Row → List (List ℕ)
further_lines row = further_of_run row.shown row.run

-- the lines of the listing for a line of the source with a row: the line behind its number, the address and the bytes
-- of the row, and the further lines of its bytes
abbrev pub row_lines : ℕ → List ℕ → Row → List (List ℕ)
row_lines number line row = (columns number (hex8 row.run.at) (first_bytes row) ++ line) ∷ further_lines row

-- the lines of the listing for a line of the source, by its number
abbrev pub lines_with : List Row → ℕ × List ℕ → List (List ℕ)
lines_with rows e = option_map_or (row_lines e.0 e.1) (row_on rows e.0) (bare_line e.0 e.1 ∷ [])

-- the lines of a source by their numbers, from 1
abbrev pub numbered_lines : List ℕ → List (ℕ × List ℕ)
numbered_lines source = enumerate_from 1 (lines_of source)

-- the lines of the listing for all lines of a source
abbrev pub source_lines : List Row → List ℕ → List (List ℕ)
source_lines rows source = flat_map (lines_with rows) (numbered_lines source)
