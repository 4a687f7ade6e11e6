-- The S-record texts that are accepted, and the bytes and the start address that they write (Motorola S-record
-- format). It is said which texts write which records, and nothing of how they are read.
use Rattle.std.specs.Prelude.{ℕ, List, [], ◌∷◌, Option, ◌≡◌, ◌+◌, ◌*◌, ◌≤◌, ◌^◌, fold, length}
use Rattle.m88_base.specs.Found.{IsFree}
use Rattle.m88_base.specs.Image.{ProgramImage, byte_at}
use Rattle.m88_base.specs.Lines.{lines_of}
use Rattle.m88_base.specs.Image.{most_bytes}
use Rattle.m88_srec.specs.Placing.{Loaded, nothing_loaded, with_data}
use Rattle.m88_srec.specs.Records.{Entry, WritesEntry}
use Rattle.m88_srec.specs.declared.purpose.Purpose.TheVariants.{Header, Data, Tally, End}

-- the address that bytes write, or the number in its place, the highest byte first
abbrev pub address_of : List ℕ → ℕ
address_of bytes = fold (λ n b. n * 2 ^ 8 + b) 0 bytes

-- lines write entries: each is empty or writes the next of them
pub data WriteEntries : List Entry → List (List ℕ) → Type 0 where
  no_line : WriteEntries [] []
  empty_line : {entries : List Entry} {lines : List (List ℕ)}
      → WriteEntries entries lines → WriteEntries entries ([] ∷ lines)
  entry_line : {entry : Entry} {entries : List Entry} {line : List ℕ} {lines : List (List ℕ)}
      → WritesEntry entry line → WriteEntries entries lines → WriteEntries (entry ∷ entries) (line ∷ lines)

-- an entry's data fits behind what was loaded: no byte past the last address, not more than an image has, none given
-- twice
pub record Fits (entry : Entry) (loaded : Loaded) : Type 0 where
  pub below : address_of entry.address + length entry.given ≤ 2 ^ 32
  pub few : loaded.count + length entry.given ≤ most_bytes
  pub free : IsFree loaded.found (address_of entry.address) (length entry.given)

-- behind what was loaded by a number of records, entries come to a whole and its start address: records that head the
-- text say nothing, each that loads adds its data, each that counts tells the number of those before it that load,
-- and one ends the text
pub data ComeTo : Loaded → ℕ → List Entry → Loaded → ℕ → Type 0 where
  headed : {loaded whole : Loaded} {n start : ℕ} {entry : Entry} {entries : List Entry}
      → entry.purpose ≡ Header → ComeTo loaded n entries whole start → ComeTo loaded n (entry ∷ entries) whole start
  filled : {loaded whole : Loaded} {n start : ℕ} {entry : Entry} {entries : List Entry}
      → entry.purpose ≡ Data → Fits entry loaded
      → ComeTo (with_data (address_of entry.address) entry.given loaded) (n + 1) entries whole start
      → ComeTo loaded n (entry ∷ entries) whole start
  tallied : {loaded whole : Loaded} {n start : ℕ} {entry : Entry} {entries : List Entry}
      → entry.purpose ≡ Tally → address_of entry.address ≡ n
      → ComeTo loaded n entries whole start → ComeTo loaded n (entry ∷ entries) whole start
  ended : {loaded : Loaded} {n : ℕ} {entry : Entry}
      → entry.purpose ≡ End → ComeTo loaded n (entry ∷ []) loaded (address_of entry.address)

-- what a text writes: the byte at an address, where there is one, and the start address
pub record Whole : Type 0 where
  pub found : ℕ → Option ℕ
  pub start : ℕ

-- an image as what a text writes
abbrev pub whole_of : ProgramImage → Whole
whole_of image = record { found = byte_at image; start = image.start }

-- a text is accepted and writes a whole
pub record IsAccepted (text : List ℕ) (whole : Whole) : Type 0 where
  pub entries : List Entry
  pub lines : WriteEntries entries (lines_of text)
  pub loaded : Loaded
  pub comes : ComeTo nothing_loaded 0 entries loaded whole.start
  pub found : loaded.found ≡ whole.found
