-- What holds of every source and of its listing: it is accepted or refused, and it has one text, whose lines show the
-- image that `build` makes, and each line of the source once.
use Rattle.std.specs.Prelude.{◌==◌, ◌≤◌, Bool, not, drop, filter, length, slice_index_or, map, ◌≡◌, ◌↔◌, ◌⊎◌, ℕ, Some, List, [], ◌∷◌, flat_map}
use Rattle.std.specs.Option.{option_map_or}
use Rattle.m88_base.specs.Image.{ProgramImage, byte_at}
use Rattle.m88_base.specs.Lines.{lines_of}
use Rattle.m88_base.specs.OneVerdict.{HasOneFaultUnless}
use Rattle.m88_base.specs.Placed.{Placed, byte_in}
use Rattle.m88_base.specs.Reading.{most_input}
use Rattle.m88_parse.specs.Language.Units.{IsUnit}
use Rattle.m88_parse.specs.declared.unit.Unit.{Unit as Source}
use Rattle.m88_asm.specs.Accepted.{IsAcceptedUnit}
use Rattle.m88_asm.specs.Images.{IsUnitImage}
use Rattle.m88_asm.specs.Sources.{IsProgramSource, IsRefusedProgram}
use Rattle.m88_listing.specs.Answer.{Lists}
use Rattle.m88_listing.specs.Columns.{before_source, space_byte}
use Rattle.m88_listing.specs.Rows.{Row, numbered_lines, row_on, rows_of_unit, source_lines}

-- the bytes that the lines of a source show, in order of the lines
abbrev pub shown_runs : List Row → List ℕ → List Placed
shown_runs rows source =
    flat_map (λ e. option_map_or (λ row. row.run ∷ []) (row_on rows e.0) []) (numbered_lines source)

-- some run has this byte at the address
abbrev pub Shows : List Placed → ℕ → ℕ → Type 0
Shows [] a b = ⊥
Shows (run ∷ runs) a b = (byte_in run a ≡ Some b) ⊎ Shows runs a b

-- the lines of a source that is accepted show a byte at an address exactly where the image of the source has it
abbrev pub EachShowsItsImage : Type 0
EachShowsItsImage =
    (source : List ℕ) (u : Source) (image : ProgramImage) → IsUnit source u → IsAcceptedUnit u → IsUnitImage u image
    → (a b : ℕ) → Shows (shown_runs (rows_of_unit u) source) a b ↔ (byte_at image a ≡ Some b)

-- a line of a listing has the number of a line of the source: the last place of the first column isn't blank
abbrev pub has_number : List ℕ → Bool
has_number line = not (slice_index_or line 6 space_byte == space_byte)

-- the lines of a listing that have a number are, without their columns, the lines of the source, each once and in order
abbrev pub EachLineStandsOnce : Type 0
EachLineStandsOnce =
    (source : List ℕ) (u : Source) → length source ≤ most_input → IsAcceptedUnit u
    → map (drop before_source) (filter has_number (source_lines (rows_of_unit u) source)) ≡ lines_of source

-- what holds of all of them
pub record ListingLaws : Type 0 where
  -- a source is accepted, or refused for one reason, never both; and no two texts list it
  pub one_verdict : (source : List ℕ) → HasOneFaultUnless (IsProgramSource source) (IsRefusedProgram 0 source)
  pub one_text : (source a b : List ℕ) → Lists source a → Lists source b → a ≡ b
  -- the lines of every listing show a byte at an address exactly where the image of the source has it, and each line of
  -- the source stands there once, in order
  pub image : EachShowsItsImage
  pub lines : EachLineStandsOnce
