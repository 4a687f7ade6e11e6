-- The listing of a source that is refused: its lines with the rows that are shown, and below the line at fault a mark
-- and the line that refuses the source.
use Rattle.std.specs.Prelude.{ℕ, ◌-◌, ◌==◌, if◌then◌else◌, List, [], ◌++◌, codes, drop, flat_map, map, slice_index_or, take}
use Rattle.m88_base.specs.Lines.{line_end, lines_of, text_of_lines}
use Rattle.m88_base.specs.Refusal.{Refusal, refusal_line}
use Rattle.m88_parse.specs.Language.Bytes.{tab}
use Rattle.m88_listing.specs.Columns.{before_source, space_byte, blanks}
use Rattle.m88_listing.specs.Rows.{Row, lines_with, numbered_lines}

-- what stands below a byte before the mark: a tab below a tab, and a blank below any other byte
abbrev pub below : ℕ → ℕ
below b = if b == tab then tab else space_byte

-- the line with a mark below a column, from 1, of a line of the source
abbrev pub mark_line : ℕ → List ℕ → List ℕ
mark_line column line = blanks before_source ++ map below (take (column - 1) line) ++ codes "^"

-- a line by its number, from 1; empty where there is none
abbrev pub line_at : List ℕ → ℕ → List ℕ
line_at source number = slice_index_or (lines_of source) (number - 1) []

-- the text of numbered lines with rows
abbrev pub text_with : List Row → List (ℕ × List ℕ) → List ℕ
text_with rows lines = text_of_lines (flat_map (lines_with rows) lines)

-- the text of a source that is refused: the lines up to the one at fault, the mark, the line of the refusal, and the
-- other lines
abbrev pub refused_text : List Row → List ℕ → Refusal → List ℕ
refused_text rows source r =
    text_with rows (take r.line (numbered_lines source))
    ++ (mark_line r.column (line_at source r.line) ++ line_end)
    ++ refusal_line r
    ++ text_with rows (drop r.line (numbered_lines source))
