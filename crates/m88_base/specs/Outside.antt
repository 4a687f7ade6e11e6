-- How much of a source's bytes was taken, and how much of a text a sink was given, where source and sink tell.
use Rattle.std.specs.Prelude.{◌≡◌, ℕ, ◌<◌, ◌≤◌, ◌++◌, List, length, take, Option, Some, None}
use Rattle.std.specs.Io.KnownBytes.{Appends, Consumes, IsAtEnd}

-- n bytes were taken from the source
abbrev pub TakesExactly : Option (List ℕ) → Option (List ℕ) → ℕ → Type 0
TakesExactly old new n = (bytes : List ℕ) × Consumes old new bytes × (length bytes ≡ n)

-- at most n bytes were taken from the source
abbrev pub TakesAtMost : Option (List ℕ) → Option (List ℕ) → ℕ → Type 0
TakesAtMost old new n = (bytes : List ℕ) × Consumes old new bytes × (length bytes ≤ n)

-- the source, with these bytes left before and those after, gave all that it had, to its end
abbrev pub GivesAll : Option (List ℕ) → Option (List ℕ) → List ℕ → Type 0
GivesAll before after bytes = Consumes before after bytes × IsAtEnd after

-- the sink was given a front of the text that lacks at least one byte
abbrev pub AppendsPart : Option (List ℕ) → Option (List ℕ) → List ℕ → Type 0
AppendsPart old new text = (n : ℕ) × (n < length text) × Appends old new (take n text)

-- the sink holds what it held and the whole text behind it
abbrev pub IsWhole : Option (List ℕ) → Option (List ℕ) → List ℕ → Type 0
IsWhole (Some before) (Some after) text = after ≡ before ++ text
IsWhole None after text = ⊥
IsWhole (Some before) None text = ⊥
