-- The listing of a source that is accepted: its lines with what they put where, then its labels, its numbers, and sums.
use Rattle.std.specs.Prelude.{◌≡◌, ℕ, List, [], ◌∷◌, ◌++◌, codes, map}
use Rattle.m88_base.specs.Lines.{text_of_lines}
use Rattle.m88_parse.specs.declared.unit.Unit.{Unit as Source}
use Rattle.m88_asm.specs.Sources.{IsProgramSource}
use Rattle.m88_listing.specs.declared.entries.Entry.{Entry}
use Rattle.m88_listing.specs.Entries.{AreInOrder, entry_line, labels_of, numbers_of}
use Rattle.m88_listing.specs.Rows.{rows_of_unit, source_lines}
use Rattle.m88_listing.specs.Sums.{sum_lines}

-- an empty line, a line with a title, and the lines of entries
abbrev pub entry_lines : List ℕ → List Entry → List (List ℕ)
entry_lines title entries = [] ∷ title ∷ map entry_line entries

-- the lines of a listing, for the source's unit and the unit's labels in order
abbrev pub listing_lines : List ℕ → Source → List Entry → List (List ℕ)
listing_lines source u labels =
    source_lines (rows_of_unit u) source
    ++ entry_lines (codes "labels") labels
    ++ entry_lines (codes "numbers") (numbers_of u)
    ++ sum_lines u

-- the text lists a source that is accepted
pub record ListsAccepted (source text : List ℕ) : Type 0 where
  pub accepted : IsProgramSource source
  pub labels : List Entry
  pub in_order : AreInOrder (labels_of accepted.unit) labels
  pub is_text : text ≡ text_of_lines (listing_lines source accepted.unit labels)
