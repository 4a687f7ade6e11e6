-- The text of objects as its lines.
use Rattle.std.proofs.Common.{◌≡◌, ℕ, ◌<◌, ◌^◌, Bool, true, false, List, [], ◌∷◌, ◌++◌, length, map, refl, sym, ap, ◌∙◌, append_assoc}
use Rattle.std.specs.Prelude.{Option, None, Some, IfSome, codes, decimal, flat_map, if◌then◌else◌}
use Rattle.std.specs.List.{AllByRecursion}
use Rattle.std.proofs.lemmas.List.Concat.{flat_map-append}
use Rattle.m88_base.specs.Hex.{hex8}
use Rattle.m88_base.specs.Lines.{line_end}
use Rattle.m88_base.specs.Pieces.{pieces}
use Rattle.m88_base.specs.declared.fixup.Kind.{Kind}
use Rattle.m88_base.specs.declared.fixup.Kind.TheVariants.{Hi16, Lo16, Pc26, Pc16, Abs32}
use Rattle.m88_link.specs.declared.object.Object.{Object}
use Rattle.m88_link.specs.declared.object.Place.{Place}
use Rattle.m88_link.specs.declared.object.Place.TheVariants.{Text, DataSection, At}
use Rattle.m88_link.specs.declared.object.Reloc.{Reloc}
use Rattle.m88_link.specs.declared.object.Section.{Section}
use Rattle.m88_link.specs.declared.object.Symbol.{Symbol}
use Rattle.m88_link.specs.declared.row.Row.{Row}
use Rattle.m88_link.specs.declared.row.Row.TheVariants.{Begin, Head, Define, Patch, End}
use Rattle.m88_link.specs.declared.row.SectionHead.{SectionHead}
use Rattle.m88_link.specs.ObjectRead.{HasRelocText, HasSectionText, HasSymbolText, HasText, ended_lines}
use Rattle.m88_link.specs.ObjectText.{byte_line, byte_lines, blank, end_line, field_words, kind_word, object_line, object_lines, objects_text, place_words, reloc_line, section_lines, section_word, source_words, symbol_line, target_words}
use Rattle.m88_link.proofs.ByteTexts.{digits_lack}
use Rattle.m88_base.specs.Cut.{lacks}
use Rattle.m88_base.proofs.Laws.{lacks-append}
use Rattle.m88_link.proofs.Lined.{lines_at, lines_none}
use Rattle.m88_link.proofs.RowTexts.{IsRow, head_text, place_text, row_text}
use Rattle.m88_link.proofs.Spelling.{decimal_is_word, hex8_is_word, name_is_word, scope_text}
use Rattle.m88_link.proofs.Written.{byte_row, head_row, object_rows, objects_rows, reloc_rows, section_rows, sections_rows, symbol_rows}

-- a line with its LF
abbrev pub ended : List ℕ → List ℕ
ended line = line ++ 10 ∷ []

abbrev pub joined : List (List ℕ) → List ℕ
joined rows = flat_map ended rows

-- each line of the writer
name_line_is : (name : List ℕ) → object_line name ≡ ended (row_text (Begin name))
name_line_is name = simp append_assoc

head_line_is : (p : Place) (len line : ℕ) → place_words p len ++ blank ++ decimal line ++ line_end ≡ ended (head_row p len line)
head_line_is Text len line = simp append_assoc
head_line_is DataSection len line = simp append_assoc
head_line_is (At a) len line = simp append_assoc

scope_words : (scope : Bool) → (if scope then codes " g " else codes " l ") ≡ 32 ∷ (scope_text scope ++ 32 ∷ [])
scope_words true = refl
scope_words false = refl

seven : (a b c d e f g : List ℕ) → a ++ b ++ c ++ d ++ e ++ f ++ g ≡ a ++ (b ++ (c ++ (d ++ (e ++ (f ++ g)))))
seven a b c d e f g = simp append_assoc

source_grouped : (line col : List ℕ) → blank ++ line ++ blank ++ col ++ line_end ≡ 32 ∷ (line ++ 32 ∷ (col ++ 10 ∷ []))
source_grouped line col = simp append_assoc

words_grouped : (name scope section value line col : List ℕ)
    → codes "symbol " ++ name ++ scope ++ section ++ blank ++ value ++ (blank ++ line ++ blank ++ col ++ line_end)
    ≡ codes "symbol " ++ (name ++ (scope ++ (section ++ 32 ∷ (value ++ 32 ∷ (line ++ 32 ∷ (col ++ 10 ∷ []))))))
words_grouped name scope section value line col =
    seven (codes "symbol ") name scope section blank value (blank ++ line ++ blank ++ col ++ line_end)
    ∙ ap (λ (l : List ℕ). codes "symbol " ++ (name ++ (scope ++ (section ++ 32 ∷ (value ++ l))))) (source_grouped line col)

words_ended : (name scope section value line col : List ℕ)
    → ended (codes "symbol" ++ 32 ∷ (name ++ 32 ∷ (scope ++ 32 ∷ (section ++ 32 ∷ (value ++ 32 ∷ (line ++ 32 ∷ col))))))
    ≡ codes "symbol " ++ (name ++ 32 ∷ (scope ++ 32 ∷ (section ++ 32 ∷ (value ++ 32 ∷ (line ++ 32 ∷ (col ++ 10 ∷ []))))))
words_ended name scope section value line col = simp append_assoc

symbol_words : (name scope section value line col : List ℕ)
    → codes "symbol " ++ name ++ 32 ∷ (scope ++ 32 ∷ []) ++ section ++ blank ++ value ++ (blank ++ line ++ blank ++ col ++ line_end)
    ≡ ended (codes "symbol" ++ 32 ∷ (name ++ 32 ∷ (scope ++ 32 ∷ (section ++ 32 ∷ (value ++ 32 ∷ (line ++ 32 ∷ col))))))
symbol_words name scope section value line col =
    let rest : List ℕ = section ++ 32 ∷ (value ++ 32 ∷ (line ++ 32 ∷ (col ++ 10 ∷ []))) in
    words_grouped name (32 ∷ (scope ++ 32 ∷ [])) section value line col
    ∙ ap (λ (l : List ℕ). codes "symbol " ++ (name ++ 32 ∷ l)) (append_assoc scope (32 ∷ []) rest)
    ∙ sym (words_ended name scope section value line col)

symbol_line_is : (s : Symbol) → symbol_line s ≡ ended (row_text (Define s))
symbol_line_is s =
    ap (λ (w : List ℕ). codes "symbol " ++ s.name ++ w ++ section_word s.section ++ blank ++ hex8 s.value ++ source_words s.line s.col) (scope_words s.global)
    ∙ symbol_words s.name (scope_text s.global) (section_word s.section) (hex8 s.value) (decimal s.line) (decimal s.col)

reloc_line_is : (r : Reloc) → reloc_line r ≡ ended (row_text (Patch r))
unfolding field_words target_words
reloc_line_is r = simp append_assoc

byte_line_is : (bytes : List ℕ) → byte_line bytes ≡ ended (byte_row bytes)
byte_line_is bytes = simp append_assoc

-- lists of parts
parts_joined : {A : Type 0} (lines : A → List ℕ) (rows : A → List (List ℕ)) → ((x : A) → lines x ≡ joined (rows x)) → (xs : List A)
    → flat_map lines xs ≡ joined (flat_map rows xs)
parts_joined lines rows each [] = refl
parts_joined lines rows each (x ∷ xs) =
    ap (λ l. l ++ flat_map lines xs) (each x) ∙ ap (λ l. joined (rows x) ++ l) (parts_joined lines rows each xs)
    ∙ sym (flat_map-append ended (rows x) (flat_map rows xs))

ones_joined : {A : Type 0} (line row : A → List ℕ) → ((x : A) → line x ≡ ended (row x)) → (xs : List A)
    → flat_map line xs ≡ joined (map row xs)
ones_joined line row each [] = refl
ones_joined line row each (x ∷ xs) = ap (λ l. l ++ flat_map line xs) (each x) ∙ ap (λ l. ended (row x) ++ l) (ones_joined line row each xs)

section_lines_are : (s : Section) → section_lines s ≡ joined (section_rows s)
section_lines_are s =
    ap (λ l. l ++ byte_lines s.bytes) (head_line_is s.place (length s.bytes) s.line)
    ∙ ap (λ l. ended (head_row s.place (length s.bytes) s.line) ++ l) (ones_joined byte_line byte_row byte_line_is (pieces 32 s.bytes))

pub name_front : (o : Object) (xs : List Section) → object_line o.name ++ flat_map section_lines xs ≡ joined (row_text (Begin o.name) ∷ sections_rows xs)
name_front o xs =
    ap (λ l. l ++ flat_map section_lines xs) (name_line_is o.name)
    ∙ ap (λ l. ended (row_text (Begin o.name)) ++ l) (parts_joined section_lines section_rows section_lines_are xs)

pub symbols_joined : (xs : List Symbol) → flat_map symbol_line xs ≡ joined (symbol_rows xs)
symbols_joined xs = ones_joined symbol_line (λ s. row_text (Define s)) symbol_line_is xs

pub relocs_joined : (xs : List Reloc) → flat_map reloc_line xs ≡ joined (reloc_rows xs)
relocs_joined xs = ones_joined reloc_line (λ r. row_text (Patch r)) reloc_line_is xs

pub joined-append : (xs ys : List (List ℕ)) → joined (xs ++ ys) ≡ joined xs ++ joined ys
joined-append xs ys = flat_map-append ended xs ys

object_joined : (o : Object) → object_lines o ≡ joined (object_rows o)
object_joined o =
    let name : List (List ℕ) = row_text (Begin o.name) ∷ sections_rows o.sections in
    ap (λ l. l ++ flat_map symbol_line o.symbols ++ flat_map reloc_line o.relocs ++ end_line) (name_front o o.sections)
    ∙ ap (λ l. joined name ++ l ++ flat_map reloc_line o.relocs ++ end_line) (symbols_joined o.symbols)
    ∙ ap (λ l. joined name ++ joined (symbol_rows o.symbols) ++ l ++ end_line) (relocs_joined o.relocs)
    ∙ append_assoc (joined name ++ joined (symbol_rows o.symbols)) (joined (reloc_rows o.relocs)) end_line
    ∙ append_assoc (joined name) (joined (symbol_rows o.symbols)) (joined (reloc_rows o.relocs) ++ end_line)
    ∙ ap (λ l. joined name ++ (joined (symbol_rows o.symbols) ++ l)) (sym (joined-append (reloc_rows o.relocs) (row_text End ∷ [])))
    ∙ ap (λ l. joined name ++ l) (sym (joined-append (symbol_rows o.symbols) (reloc_rows o.relocs ++ row_text End ∷ [])))
    ∙ sym (joined-append name (symbol_rows o.symbols ++ (reloc_rows o.relocs ++ row_text End ∷ [])))

-- the text of objects is that of their lines
pub objects_joined : (os : List Object) → objects_text os ≡ joined (objects_rows os)
objects_joined os = parts_joined object_lines object_rows object_joined os

-- no line has an LF but its last byte
abbrev pub Lack : List (List ℕ) → Type 0
Lack rows = AllByRecursion (λ l. lacks 10 l ≡ true) rows

pub lack_append : (xs ys : List (List ℕ)) → Lack xs → Lack ys → Lack (xs ++ ys)
lack_append [] ys h k = k
lack_append (x ∷ xs) ys h k = (h.0, lack_append xs ys h.1 k)

word_more : (w rest : List ℕ) → lacks 10 w ≡ true → lacks 10 rest ≡ true → lacks 10 (w ++ 32 ∷ rest) ≡ true
word_more w rest h k = lacks-append 10 w (32 ∷ rest) h k

head_lacks : (h : SectionHead) → h.line < 2 ^ 32 → lacks 10 (head_text h) ≡ true
head_lacks h line = word_more (hex8 h.len) (decimal h.line) (hex8_is_word h.len).1 (decimal_is_word h.line line).1

place_lacks : (p : Place) (h : SectionHead) → h.line < 2 ^ 32 → lacks 10 (place_text p h) ≡ true
place_lacks Text h line = word_more (codes "text") (head_text h) refl (head_lacks h line)
place_lacks DataSection h line = word_more (codes "data") (head_text h) refl (head_lacks h line)
place_lacks (At a) h line =
    word_more (codes "at") (hex8 a ++ 32 ∷ head_text h) refl (word_more (hex8 a) (head_text h) (hex8_is_word a).1 (head_lacks h line))

scope_lacks : (scope : Bool) → lacks 10 (scope_text scope) ≡ true
scope_lacks true = refl
scope_lacks false = refl

section_lacks : (k : Option ℕ) → IfSome k (λ n. n < 2 ^ 32) → lacks 10 (section_word k) ≡ true
section_lacks None h = refl
section_lacks (Some n) h = (decimal_is_word n h).1

kind_lacks : (k : Kind) → lacks 10 (kind_word k) ≡ true
kind_lacks Hi16 = refl
kind_lacks Lo16 = refl
kind_lacks Pc26 = refl
kind_lacks Pc16 = refl
kind_lacks Abs32 = refl

pub row_lacks : (r : Row) → IsRow r → lacks 10 (row_text r) ≡ true
row_lacks (Begin name) h = word_more (codes "object") name refl (name_is_word name h).1
row_lacks (Head x) h = place_lacks x.place x h.2
row_lacks (Define s) h =
    let t5 : List ℕ = decimal s.col in
    let t4 : List ℕ = decimal s.line ++ 32 ∷ t5 in
    let t3 : List ℕ = hex8 s.value ++ 32 ∷ t4 in
    let t2 : List ℕ = section_word s.section ++ 32 ∷ t3 in
    let t1 : List ℕ = scope_text s.global ++ 32 ∷ t2 in
    word_more (codes "symbol") (s.name ++ 32 ∷ t1) refl
    (word_more s.name t1 (name_is_word s.name h.name).1
    (word_more (scope_text s.global) t2 (scope_lacks s.global)
    (word_more (section_word s.section) t3 (section_lacks s.section h.section)
    (word_more (hex8 s.value) t4 (hex8_is_word s.value).1
    (word_more (decimal s.line) t5 (decimal_is_word s.line h.line).1 (decimal_is_word s.col h.col).1)))))
row_lacks (Patch r) h =
    let t6 : List ℕ = decimal r.col in
    let t5 : List ℕ = decimal r.line ++ 32 ∷ t6 in
    let t4 : List ℕ = hex8 r.addend ++ 32 ∷ t5 in
    let t3 : List ℕ = r.symbol ++ 32 ∷ t4 in
    let t2 : List ℕ = hex8 r.offset ++ 32 ∷ t3 in
    let t1 : List ℕ = decimal r.section ++ 32 ∷ t2 in
    word_more (codes "reloc") (kind_word r.kind ++ 32 ∷ t1) refl
    (word_more (kind_word r.kind) t1 (kind_lacks r.kind)
    (word_more (decimal r.section) t2 (decimal_is_word r.section h.section).1
    (word_more (hex8 r.offset) t3 (hex8_is_word r.offset).1
    (word_more r.symbol t4 (name_is_word r.symbol h.symbol).1
    (word_more (hex8 r.addend) t5 (hex8_is_word r.addend).1
    (word_more (decimal r.line) t6 (decimal_is_word r.line h.line).1 (decimal_is_word r.col h.col).1))))))
row_lacks End h = refl

bytes_lack : (ps : List (List ℕ)) → Lack (map byte_row ps)
bytes_lack [] = tt
bytes_lack (p ∷ ps) = (digits_lack p, bytes_lack ps)

pub parts_lack : {A : Type 0} (P : A → Type 0) (rows : A → List (List ℕ)) → ((x : A) → P x → Lack (rows x)) → (xs : List A) → AllByRecursion P xs
    → Lack (flat_map rows xs)
parts_lack P rows each [] h = tt
parts_lack P rows each (x ∷ xs) h = lack_append (rows x) (flat_map rows xs) (each x h.0) (parts_lack P rows each xs h.1)

pub ones_lack : {A : Type 0} (P : A → Type 0) (row : A → List ℕ) → ((x : A) → P x → lacks 10 (row x) ≡ true) → (xs : List A) → AllByRecursion P xs
    → Lack (map row xs)
ones_lack P row each [] h = tt
ones_lack P row each (x ∷ xs) h = (each x h.0, ones_lack P row each xs h.1)

pub section_lack : (s : Section) → HasSectionText s → Lack (section_rows s)
section_lack s h = (
  row_lacks (Head (record { place = s.place; len = length s.bytes; line = s.line })) (h.address, h.few, h.line),
  bytes_lack (pieces 32 s.bytes),
)

object_lack : (o : Object) → HasText o → Lack (object_rows o)
object_lack o h = (
  row_lacks (Begin o.name) h.name,
  lack_append (sections_rows o.sections) _ (parts_lack HasSectionText section_rows section_lack o.sections h.sections)
      (lack_append (symbol_rows o.symbols) _ (ones_lack HasSymbolText (λ s. row_text (Define s)) (λ s k. row_lacks (Define s) k) o.symbols h.symbols)
      (lack_append (reloc_rows o.relocs) (row_text End ∷ []) (ones_lack HasRelocText (λ r. row_text (Patch r)) (λ r k. row_lacks (Patch r) k) o.relocs h.relocs)
      (refl, tt))),
)

pub objects_lack : (os : List Object) → AllByRecursion HasText os → Lack (objects_rows os)
objects_lack os h = parts_lack HasText object_rows object_lack os h

pub lack_front : (xs ys : List (List ℕ)) → Lack (xs ++ ys) → Lack xs
lack_front [] ys h = tt
lack_front (x ∷ xs) ys h = (h.0, lack_front xs ys h.1)

-- the lines of joined lines
pub lines_of_rows : (rows : List (List ℕ)) → Lack rows → ended_lines (joined rows) ≡ map ended rows
lines_of_rows [] h = lines_none
lines_of_rows (r ∷ rs) h =
    ap ended_lines (append_assoc r (10 ∷ []) (joined rs)) ∙ lines_at r (joined rs) h.0 ∙ ap (λ l. ended r ∷ l) (lines_of_rows rs h.1)

-- the lines of the text of objects
pub lines_of_objects : (os : List Object) → AllByRecursion HasText os → ended_lines (objects_text os) ≡ map ended (objects_rows os)
lines_of_objects os h = ap ended_lines (objects_joined os) ∙ lines_of_rows (objects_rows os) (objects_lack os h)
