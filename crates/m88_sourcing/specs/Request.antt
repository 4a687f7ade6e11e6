-- The words of the program: hints, or `at ADDRESS` and hints.
use Rattle.std.specs.Prelude.{◌≡◌, ℕ, ◌≤◌, List, [], ◌∷◌, Option, Some, None, codes, flat_map, length, sum_by}
use Rattle.m88_sourcing.specs.Hints.{AreHints}
use Rattle.m88_sourcing.specs.Places.{IsNumberWord}
use Rattle.m88_sourcing.specs.declared.hint.Hint.{Hint}
use Rattle.m88_sourcing.specs.declared.hint.Hint.TheVariants.{Enters, Fixes, Starts}
use Rattle.m88_sourcing.specs.declared.request.Binary.{Binary}

-- what is asked for: where the bytes of a binary begin and where it starts, none where S-records are read; and what is
-- said of its image
pub record Request : Type 0 where
  pub binary : Option Binary
  pub hints : List Hint

-- so many addresses are named by a hint at which code begins
abbrev pub addresses_in : Hint → ℕ
addresses_in (Enters places) = places.count
addresses_in (Fixes places) = places.count
addresses_in (Starts at) = 0

-- where a hint says that a binary starts
abbrev pub starts_in : Hint → List ℕ
starts_in (Starts at) = at ∷ []
starts_in hint = []

-- the most hints
abbrev pub most_hints : ℕ
most_hints = 4096

-- the most addresses that they name
abbrev pub most_addresses : ℕ
most_addresses = 65536

-- there are no more hints and no more addresses than there may be, and at most one start
pub record AreFew (hints : List Hint) : Type 0 where
  pub few : length hints ≤ most_hints
  pub addresses : sum_by addresses_in hints ≤ most_addresses
  pub starts : length (flat_map starts_in hints) ≤ 1

-- words say hints, not too many
abbrev pub SayHints : List (List ℕ) → List Hint → Type 0
SayHints words hints = AreHints words hints × AreFew hints

-- where a binary that begins at an address starts: there, or where that is said
abbrev pub start_of : ℕ → List ℕ → ℕ
start_of at [] = at
start_of at (start ∷ starts) = start

-- words ask for the source of S-records, whose start isn't said, or of a binary
pub data Asks : List (List ℕ) → Request → Type 0 where
  records : {words : List (List ℕ)} {hints : List Hint} → SayHints words hints → flat_map starts_in hints ≡ []
      → Asks words (record { binary = None; hints = hints })
  binary : {word : List ℕ} {words : List (List ℕ)} {at : ℕ} {hints : List Hint} → IsNumberWord word at
      → SayHints words hints
      → Asks (codes "at" ∷ word ∷ words)
      (record { binary = Some (record { at = at; start = start_of at (flat_map starts_in hints) }); hints = hints })
