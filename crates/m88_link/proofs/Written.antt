-- The lines of objects without their LFs, of whole ones and of one whose end hasn't come.
use Rattle.std.proofs.Common.{◌≡◌, ℕ, ◌+◌, ◌*◌, ◌/◌, ◌%◌, ◌≤◌, List, [], ◌∷◌, ◌++◌, length, map, ap, ◌∙◌, arith}
use Rattle.std.specs.Prelude.{Option, None, Some, flat_map}
use Rattle.std.proofs.lemmas.List.{map-append}
use Rattle.m88_base.specs.Hex.{hex2}
use Rattle.m88_base.specs.Pieces.{pieces}
use Rattle.m88_base.proofs.Laws.{no_pieces, only_piece, pieces-append}
use Rattle.m88_link.specs.declared.object.Object.{Object}
use Rattle.m88_link.specs.declared.object.Place.{Place}
use Rattle.m88_link.specs.declared.object.Reloc.{Reloc}
use Rattle.m88_link.specs.declared.object.Section.{Section}
use Rattle.m88_link.specs.declared.object.Symbol.{Symbol}
use Rattle.m88_link.specs.declared.row.Row.TheVariants.{Begin, Head, Define, Patch, End}
use Rattle.m88_link.specs.Inside.Drafts.{BegunObject, Filled, Progress}
use Rattle.m88_link.proofs.RowTexts.{row_text}

-- a line with bytes
abbrev pub byte_row : List ℕ → List ℕ
byte_row bytes = 61 ∷ flat_map hex2 bytes

-- the lines of some bytes
abbrev pub byte_rows : List ℕ → List (List ℕ)
byte_rows bytes = map byte_row (pieces 32 bytes)

pub no_rows : byte_rows [] ≡ []
no_rows = ap (map byte_row) (no_pieces 32 (omega arith))

-- the head of a section
abbrev pub head_row : Place → ℕ → ℕ → List ℕ
head_row place len line = row_text (Head (record { place = place; len = len; line = line }))

abbrev pub section_rows : Section → List (List ℕ)
section_rows s = head_row s.place (length s.bytes) s.line ∷ byte_rows s.bytes

abbrev pub sections_rows : List Section → List (List ℕ)
sections_rows sections = flat_map section_rows sections

-- a section whose bytes come
abbrev pub filled_rows : Filled → List (List ℕ)
filled_rows f = head_row f.place (length f.bytes + f.missing) f.line ∷ byte_rows f.bytes

abbrev pub filling_rows : Option Filled → List (List ℕ)
filling_rows None = []
filling_rows (Some f) = filled_rows f

abbrev pub symbol_rows : List Symbol → List (List ℕ)
symbol_rows symbols = map (λ s. row_text (Define s)) symbols

abbrev pub reloc_rows : List Reloc → List (List ℕ)
reloc_rows relocs = map (λ r. row_text (Patch r)) relocs

abbrev pub object_rows : Object → List (List ℕ)
object_rows o =
    row_text (Begin o.name) ∷ (sections_rows o.sections ++ (symbol_rows o.symbols ++ (reloc_rows o.relocs ++ row_text End ∷ [])))

abbrev pub objects_rows : List Object → List (List ℕ)
objects_rows objects = flat_map object_rows objects

-- an object whose end hasn't come
abbrev pub draft_rows : BegunObject → List (List ℕ)
draft_rows d =
    row_text (Begin d.name) ∷ (sections_rows d.sections ++ (filling_rows d.filling ++ (symbol_rows d.symbols ++ reloc_rows d.relocs)))

abbrev pub open_rows : Option BegunObject → List (List ℕ)
open_rows None = []
open_rows (Some d) = draft_rows d

-- what has come to what is read so far
abbrev pub written : Progress → List (List ℕ)
written s = objects_rows s.done ++ open_rows s.draft

-- whole lines of bytes stand in front of the lines of others
rows_append : (xs ys : List ℕ) → length xs % 32 ≡ 0 → byte_rows (xs ++ ys) ≡ byte_rows xs ++ byte_rows ys
rows_append xs ys whole =
    let n : ℕ = length xs / 32 in
    let size : length xs ≡ n * 32 = omega (arith, whole) in
    ap (map byte_row) (pieces-append 32 (omega arith) n xs ys size) ∙ map-append byte_row (pieces 32 xs) (pieces 32 ys)

-- a line more behind whole lines
pub one_row_more : (xs bs : List ℕ) → length xs % 32 ≡ 0 → 1 ≤ length bs → length bs ≤ 32
    → byte_rows (xs ++ bs) ≡ byte_rows xs ++ byte_row bs ∷ []
one_row_more xs bs whole some few =
    rows_append xs bs whole ∙ ap (λ ps. byte_rows xs ++ map byte_row ps) (only_piece 32 (omega arith) bs (omega (arith, some)) few)

-- whole lines of bytes begin the lines of these bytes with others behind them
pub rows_prefix : (xs ys : List ℕ) → length xs % 32 ≡ 0 → (rest : List (List ℕ)) × (byte_rows (xs ++ ys) ≡ byte_rows xs ++ rest)
rows_prefix xs ys whole = (byte_rows ys, rows_append xs ys whole)
