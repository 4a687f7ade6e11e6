-- The S-record text that is written for an image (Motorola S-record format): a header, the bytes of each part in
-- records of sixteen with addresses of four bytes, and the end record with the start address.
use Rattle.std.specs.Prelude.{ℕ, List, [], ◌∷◌, ◌++◌, ◌+◌, ◌*◌, codes, flat_map, map}
use Rattle.std.specs.Int.{to_be_bytes, w32}
use Rattle.std.specs.List.{enumerate_from}
use Rattle.m88_base.specs.Hex.{hex2}
use Rattle.m88_base.specs.Image.{ProgramImage, parts}
use Rattle.m88_base.specs.Lines.{text_of_lines}
use Rattle.m88_base.specs.Pieces.{pieces}
use Rattle.m88_base.specs.Placed.{Placed}
use Rattle.m88_srec.specs.Records.{framed, letter_s}

-- how many bytes of data a record has, the last of a part has what is left
abbrev pub most_data : ℕ
most_data = 16

-- the line of a record with a type digit and a body
unfoldable pub record_line : ℕ → List ℕ → List ℕ
record_line digit body = letter_s ∷ digit ∷ flat_map hex2 (framed body)

-- the header record, which names the program
abbrev pub header_line : List ℕ
header_line = record_line 48 (0 ∷ 0 ∷ codes "M88")

-- some bytes from an address on
abbrev pub data_line : ℕ → List ℕ → List ℕ
data_line at given = record_line 51 (to_be_bytes w32 at ++ given)

-- the start address
abbrev pub last_line : ℕ → List ℕ
last_line start = record_line 55 (to_be_bytes w32 start)

-- the line of a piece of sixteen with its number, of bytes from an address on
abbrev pub piece_line : ℕ → ℕ × List ℕ → List ℕ
piece_line at numbered = data_line (at + numbered.0 * most_data) numbered.1

-- the lines of bytes from an address on, one for each piece of sixteen in order
unfoldable pub data_lines : ℕ → List ℕ → List (List ℕ)
data_lines at bytes = map (piece_line at) (enumerate_from 0 (pieces most_data bytes))

-- the lines of a part
abbrev pub part_lines : Placed → List (List ℕ)
part_lines part = data_lines part.at part.bytes

-- all lines
abbrev pub lines_for : ProgramImage → List (List ℕ)
lines_for image = (header_line ∷ flat_map part_lines (parts image)) ++ last_line image.start ∷ []

-- the text
unfoldable pub srec_text : ProgramImage → List ℕ
srec_text image = text_of_lines (lines_for image)
