-- What a line of an object text says, word by word.
use Rattle.std.specs.Prelude.{ℕ, ◌+◌, ◌-◌, ◌*◌, ◌^◌, ◌&&◌, Bool, true, false, List, [], ◌∷◌, ◌++◌, Option, None, Some, bytes_eq, codes, length, nat_lt, option_and_then, option_map, if◌then◌else◌}
use Rattle.std.specs.Char.{digit_value}
use Rattle.std.specs.List.{list_all}
use Rattle.m88_base.specs.Cut.{split_at_byte}
use Rattle.m88_base.specs.Hex.{hex8_of, is_hex_digit}
use Rattle.m88_base.specs.Name.{begins_name, continues_name}
use Rattle.m88_base.specs.Numerals.{decimal_in}
use Rattle.m88_base.specs.declared.fixup.Kind.{Kind}
use Rattle.m88_base.specs.declared.fixup.Kind.TheVariants.{Hi16, Lo16, Pc26, Pc16, Abs32}
use Rattle.m88_link.specs.declared.object.Place.{Place}
use Rattle.m88_link.specs.declared.object.Place.TheVariants.{Text, DataSection, At}
use Rattle.m88_link.specs.declared.object.Reloc.{Reloc}
use Rattle.m88_link.specs.declared.object.Symbol.{Symbol}
use Rattle.m88_link.specs.declared.row.Keyword.{Keyword}
use Rattle.m88_link.specs.declared.row.Keyword.TheVariants as word
use Rattle.m88_link.specs.declared.row.Row.{Row}
use Rattle.m88_link.specs.declared.row.Row.TheVariants.{Begin, Head, Define, Patch, End}
use Rattle.m88_link.specs.declared.row.SectionHead.{SectionHead}
use Rattle.m88_link.specs.ObjectText.{blank_byte}

infixl 10 ◌>>=◌
-- one step and then another, where the first has a result
abbrev pub ◌>>=◌ : {A B : Type 0} → Option A → (A → Option B) → Option B
o >>= f = option_and_then f o

-- the first word of a line and what stands behind its blank
abbrev pub first_word : List ℕ → Option (List ℕ × List ℕ)
first_word text = split_at_byte blank_byte text

-- the bytes are one name: the test that computes whether `IsName` holds of them
abbrev pub is_name_text : List ℕ → Bool
is_name_text [] = false
is_name_text (b ∷ bs) = begins_name b && list_all continues_name bs && nat_lt (length bs) 64

-- the name that the bytes are
abbrev pub name_written : List ℕ → Option (List ℕ)
name_written text = if is_name_text text then Some text else None

-- the number below 2^32 that decimal digits write without a needless zero
abbrev pub decimal_value : List ℕ → Option ℕ
decimal_value text = decimal_in (2 ^ 32 - 1) text

-- a word that is read by `of`, and what stands behind its blank
abbrev pub word_by : {A : Type 0} → (List ℕ → Option A) → List ℕ → Option (A × List ℕ)
word_by of text = first_word text >>= λ p. of p.0 >>= λ a. Some (a, p.1)

-- a name
unfoldable pub name_word : List ℕ → Option (List ℕ × List ℕ)
name_word text = word_by name_written text

-- a number of eight digits
unfoldable pub hex8_word : List ℕ → Option (ℕ × List ℕ)
hex8_word text = word_by hex8_of text

-- a decimal number
unfoldable pub number_word : List ℕ → Option (ℕ × List ℕ)
number_word text = word_by decimal_value text

-- whether a symbol is global
abbrev pub scope_of : List ℕ → Option Bool
scope_of text =
    if bytes_eq text (codes "g") then Some true
    else (if bytes_eq text (codes "l") then Some false else None)

-- a word that says it
unfoldable pub scope_word : List ℕ → Option (Bool × List ℕ)
scope_word text = word_by scope_of text

-- the section of a symbol: none where it is absolute
abbrev pub symbol_section_of : List ℕ → Option (Option ℕ)
symbol_section_of text = if bytes_eq text (codes "abs") then Some None else option_map Some (decimal_value text)

-- a word that says it
unfoldable pub section_word_of : List ℕ → Option (Option ℕ × List ℕ)
section_word_of text = word_by symbol_section_of text

-- the kind of a field
abbrev pub field_kind_of : List ℕ → Option Kind
field_kind_of text =
    if bytes_eq text (codes "hi16") then Some Hi16
    else (if bytes_eq text (codes "lo16") then Some Lo16
    else (if bytes_eq text (codes "pc26") then Some Pc26
    else (if bytes_eq text (codes "pc16") then Some Pc16
    else (if bytes_eq text (codes "abs32") then Some Abs32 else None))))

-- a word that says it
unfoldable pub kind_word_of : List ℕ → Option (Kind × List ℕ)
kind_word_of text = word_by field_kind_of text

-- a section's length and line, by its place
unfoldable pub head_of : Place → List ℕ → Option SectionHead
head_of place text = do
  len ← hex8_word text
  line ← decimal_value len.1
  Some (record { place = place; len = len.0; line = line })

-- an address, and then as of any section
unfoldable pub at_of : List ℕ → Option SectionHead
at_of text = do
  at ← hex8_word text
  head_of (At at.0) at.1

-- a symbol
unfoldable pub symbol_in : List ℕ → Option Symbol
symbol_in text = do
  name ← name_word text
  scope ← scope_word name.1
  section ← section_word_of scope.1
  value ← hex8_word section.1
  line ← number_word value.1
  col ← decimal_value line.1
  Some (record { name = name.0; global = scope.0; section = section.0; value = value.0; line = line.0; col = col })

-- a relocation
unfoldable pub reloc_in : List ℕ → Option Reloc
reloc_in text = do
  kind ← kind_word_of text
  section ← number_word kind.1
  offset ← hex8_word section.1
  symbol ← name_word offset.1
  addend ← hex8_word symbol.1
  line ← number_word addend.1
  col ← decimal_value line.1
  Some (record {
    kind = kind.0;
    section = section.0;
    offset = offset.0;
    symbol = symbol.0;
    addend = addend.0;
    line = line.0;
    col = col;
  })

-- the word that begins a line without bytes, where it is one of these
abbrev pub keyword_of : List ℕ → Option Keyword
keyword_of text =
    if bytes_eq text (codes "object") then Some word.Object
    else (if bytes_eq text (codes "symbol") then Some word.Symbol
    else (if bytes_eq text (codes "text") then Some word.Text
    else (if bytes_eq text (codes "data") then Some word.Data
    else (if bytes_eq text (codes "at") then Some word.At
    else (if bytes_eq text (codes "reloc") then Some word.Reloc else None)))))

-- what stands behind the first word, by that word
abbrev pub row_by : Keyword → List ℕ → Option Row
row_by word.Object rest = option_map Begin (name_written rest)
row_by word.Text rest = option_map Head (head_of Text rest)
row_by word.Data rest = option_map Head (head_of DataSection rest)
row_by word.At rest = option_map Head (at_of rest)
row_by word.Symbol rest = option_map Define (symbol_in rest)
row_by word.Reloc rest = option_map Patch (reloc_in rest)

-- what a line without bytes says
unfoldable pub row_in : List ℕ → Option Row
row_in text =
    if bytes_eq text (codes "end") then Some End
    else (first_word text >>= λ p. (keyword_of p.0 >>= λ k. row_by k p.1))

-- the value of an upper-case hexadecimal digit
abbrev pub hex_value : ℕ → Option ℕ
hex_value b = if is_hex_digit b then Some (digit_value b) else None

-- the byte that two digits write
unfoldable pub byte_by_digits : ℕ → ℕ → Option ℕ
byte_by_digits high low = do
  h ← hex_value high
  l ← hex_value low
  Some (h * 16 + l)

-- the bytes that digits write, two for each
abbrev pub bytes_by_digits : List ℕ → Option (List ℕ)
bytes_by_digits [] = Some []
bytes_by_digits (high ∷ []) = None
bytes_by_digits (high ∷ low ∷ digits) =
    byte_by_digits high low >>= λ b. option_map (λ bs. b ∷ bs) (bytes_by_digits digits)

-- bytes with those behind them that digits write
unfoldable pub bytes_behind : List ℕ → List ℕ → Option (List ℕ)
bytes_behind front digits = option_map (λ bs. front ++ bs) (bytes_by_digits digits)
