-- What words of the program say of an image beside its bytes, hint by hint.
use Rattle.std.specs.Prelude.{◌≡◌, ℕ, ◌%◌, ◌<◌, ◌≤◌, List, [], ◌∷◌, codes}
use Rattle.m88_sourcing.specs.Places.{AreWithin, IsNumberWord, IsPlacesWord}
use Rattle.m88_sourcing.specs.declared.hint.Hint.{Hint}
use Rattle.m88_sourcing.specs.declared.hint.Hint.TheVariants.{Enters, Fixes, Starts}
use Rattle.m88_sourcing.specs.declared.place.Places.{Places}

-- the most vectors, as many as the chip has ("Exceptions": vector table)
abbrev pub most_vectors : ℕ
most_vectors = 512

-- the bytes of a vector: a branch and its slot
abbrev pub vector_bytes : ℕ
vector_bytes = 8

-- so many vectors in turn, from an address on
abbrev pub vectors_from : ℕ → ℕ → Places
vectors_from at count = record { first = at; step = vector_bytes; count = count }

-- they may be said: they are at multiples of 4, one at least, and none is past the last address
pub record AreVectors (at count : ℕ) : Type 0 where
  pub whole : at % 4 ≡ 0
  pub some : 0 < count
  pub most : count ≤ most_vectors
  pub within : AreWithin (vectors_from at count)

-- words begin with a hint, and others stand behind it
pub data BeginWith : List (List ℕ) → Hint → List (List ℕ) → Type 0 where
  -- code begins at places
  entries : {word : List ℕ} {words : List (List ℕ)} {places : Places} → IsPlacesWord word places
      → BeginWith (word ∷ words) (Enters places) words
  -- the same, and their words stay where they are
  fixed : {word : List ℕ} {words : List (List ℕ)} {places : Places} → IsPlacesWord word places
      → BeginWith (codes "fixed" ∷ word ∷ words) (Fixes places) words
  -- so it is at vectors
  vectors : {first second : List ℕ} {words : List (List ℕ)} {at count : ℕ} → IsNumberWord first at
      → IsNumberWord second count → AreVectors at count
      → BeginWith (codes "vectors" ∷ first ∷ second ∷ words) (Fixes (vectors_from at count)) words
  -- the binary starts at an address
  start : {word : List ℕ} {words : List (List ℕ)} {at : ℕ} → IsNumberWord word at
      → BeginWith (codes "start" ∷ word ∷ words) (Starts at) words

-- words say hints, in turn
pub data AreHints : List (List ℕ) → List Hint → Type 0 where
  no_word : AreHints [] []
  hint : {words others : List (List ℕ)} {first : Hint} {hints : List Hint} → BeginWith words first others
      → AreHints others hints → AreHints words (first ∷ hints)
