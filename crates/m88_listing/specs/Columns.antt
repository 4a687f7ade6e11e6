-- The lines of a listing as text. Three columns with two blanks between each two, the number of the line, an address
-- and bytes or their count, and then the line of the source as it stands, from a multiple of eight on: its tabs stay
-- straight.
use Rattle.std.specs.Prelude.{ℕ, ◌-◌, List, [], ◌∷◌, ◌++◌, length, replicate, decimal}

-- the byte between columns and words
abbrev pub space_byte : ℕ
space_byte = 32

-- so many blanks
abbrev pub blanks : ℕ → List ℕ
blanks n = replicate n space_byte

-- a text at the right of a column, and at its left; a text that is wider takes what it needs
abbrev pub at_right : ℕ → List ℕ → List ℕ
at_right width text = blanks (width - length text) ++ text

-- the text at the left of a column
abbrev pub at_left : ℕ → List ℕ → List ℕ
at_left width text = text ++ blanks (width - length text)

-- how many bytes a line shows, in two digits each
abbrev pub most_shown : ℕ
most_shown = 8

-- the columns before the line of the source: seven for its number, eight for an address, sixteen for bytes
abbrev pub columns : ℕ → List ℕ → List ℕ → List ℕ
columns number address bytes =
    at_right 7 (decimal number) ++ blanks 2 ++ address ++ blanks 2 ++ at_left 16 bytes ++ blanks 5

-- a column without an address
abbrev pub no_address : List ℕ
no_address = blanks 8

-- the width of these columns, for a number of at most seven digits
abbrev pub before_source : ℕ
before_source = 40

-- a line of the source behind its number, without address and bytes; of an empty line there is the number alone
abbrev pub bare_line : ℕ → List ℕ → List ℕ
bare_line number [] = at_right 7 (decimal number)
bare_line number (byte ∷ line) = columns number no_address [] ++ byte ∷ line

-- the columns of a further line of bytes, behind the line of the source
abbrev pub further_columns : List ℕ → List ℕ → List ℕ
further_columns address bytes = blanks 9 ++ address ++ blanks 2 ++ bytes
