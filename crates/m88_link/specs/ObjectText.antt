-- Object files as text (object file formats: sections, symbol table, relocation entries): lines that end with LF, of
-- words parted by one blank.
use Rattle.std.specs.Prelude.{ℕ, List, [], ◌∷◌, ◌++◌, codes, decimal, length, flat_map, Option, None, Some, if◌then◌else◌}
use Rattle.m88_base.specs.Hex.{hex2, hex8}
use Rattle.m88_base.specs.Lines.{line_end}
use Rattle.m88_base.specs.Pieces.{pieces}
use Rattle.m88_base.specs.declared.fixup.Kind.{Kind}
use Rattle.m88_base.specs.declared.fixup.Kind.TheVariants.{Hi16, Lo16, Pc26, Pc16, Abs32}
use Rattle.m88_link.specs.declared.object.Object.{Object}
use Rattle.m88_link.specs.declared.object.Place.{Place}
use Rattle.m88_link.specs.declared.object.Place.TheVariants.{Text, DataSection, At}
use Rattle.m88_link.specs.declared.object.Reloc.{Reloc}
use Rattle.m88_link.specs.declared.object.Section.{Section}
use Rattle.m88_link.specs.declared.object.Symbol.{Symbol}

-- the byte between two words
abbrev pub blank_byte : ℕ
blank_byte = 32

-- the blank between two words
abbrev pub blank : List ℕ
blank = blank_byte ∷ []

-- a line with bytes, two digits each
abbrev pub byte_line : List ℕ → List ℕ
byte_line bytes = codes "=" ++ flat_map hex2 bytes ++ line_end

-- the most bytes of such a line
abbrev pub line_bytes : ℕ
line_bytes = 32

-- the byte lines of a section, of which each but the last has 32 bytes; none where it has no bytes
abbrev pub byte_lines : List ℕ → List ℕ
byte_lines bytes = flat_map byte_line (pieces line_bytes bytes)

-- the words for a section's place and its length
abbrev pub place_words : Place → ℕ → List ℕ
place_words Text len = codes "text " ++ hex8 len
place_words DataSection len = codes "data " ++ hex8 len
place_words (At at) len = codes "at " ++ hex8 at ++ blank ++ hex8 len

-- a section: its place, its length and its line, then its bytes
abbrev pub section_lines : Section → List ℕ
section_lines s =
    place_words s.place (length s.bytes) ++ blank ++ decimal s.line ++ line_end ++ byte_lines s.bytes

-- the word for a symbol's section
abbrev pub section_word : Option ℕ → List ℕ
section_word None = codes "abs"
section_word (Some k) = decimal k

-- the words for a line and a column of the source, which end a line
abbrev pub source_words : ℕ → ℕ → List ℕ
source_words line col = blank ++ decimal line ++ blank ++ decimal col ++ line_end

-- a symbol: its name, whether it is global, its section, its value, and where it is defined
abbrev pub symbol_line : Symbol → List ℕ
symbol_line s =
    codes "symbol " ++ s.name ++ (if s.global then codes " g " else codes " l ") ++ section_word s.section
    ++ blank ++ hex8 s.value ++ source_words s.line s.col

-- the word for a kind of field
abbrev pub kind_word : Kind → List ℕ
kind_word Hi16 = codes "hi16"
kind_word Lo16 = codes "lo16"
kind_word Pc26 = codes "pc26"
kind_word Pc16 = codes "pc16"
kind_word Abs32 = codes "abs32"

-- the words for a relocation's field: its kind, its section and its offset
unfoldable pub field_words : Reloc → List ℕ
field_words r = kind_word r.kind ++ blank ++ decimal r.section ++ blank ++ hex8 r.offset

-- the words for a relocation's target: the symbol and the addend
unfoldable pub target_words : Reloc → List ℕ
target_words r = r.symbol ++ blank ++ hex8 r.addend

-- a relocation: its field, its target, and where the symbol is used
abbrev pub reloc_line : Reloc → List ℕ
reloc_line r = codes "reloc " ++ field_words r ++ blank ++ target_words r ++ source_words r.line r.col

-- the line that begins an object
abbrev pub object_line : List ℕ → List ℕ
object_line name = codes "object " ++ name ++ line_end

-- the line that ends an object
abbrev pub end_line : List ℕ
end_line = codes "end" ++ line_end

-- an object: its name, its sections, its symbols, its relocations, and its end
abbrev pub object_lines : Object → List ℕ
object_lines o =
    object_line o.name ++ flat_map section_lines o.sections ++ flat_map symbol_line o.symbols
    ++ flat_map reloc_line o.relocs ++ end_line

-- the objects one after the other
abbrev pub objects_text : List Object → List ℕ
objects_text objects = flat_map object_lines objects
