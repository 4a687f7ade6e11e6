-- The addresses that a word of the program writes: one, or several that are equally far apart.
use Rattle.std.specs.Prelude.{ℕ, zero, suc, ◌+◌, ◌*◌, ◌-◌, ◌/◌, ◌<◌, ◌≤◌, ◌^◌, List, [], ◌∷◌, ◌++◌, codes}
use Rattle.m88_parse.specs.Language.Tokens.{IsNumeral}
use Rattle.m88_sourcing.specs.declared.place.Places.{Places}

-- a word writes a number as the assembly language does: in decimal digits without a needless 0, or as 0x and hexadecimal
-- digits; it is below 2^32
abbrev pub IsNumberWord : List ℕ → ℕ → Type 0
IsNumberWord word n = IsNumeral word n × (n < 2 ^ 32)

-- how far apart places are where that isn't said: as words are
abbrev pub word_step : ℕ
word_step = 4

-- the places from one address on up to another, so far apart
abbrev pub up_to : ℕ → ℕ → ℕ → Places
up_to first last step = record { first = first; step = step; count = (last - first) / step + 1 }

-- what stands behind the first address of a range and its `-`: the last address, from which none is further on, and maybe
-- a `/` and how far apart they are
pub data IsRangeEnd (first : ℕ) : List ℕ → Places → Type 0 where
  words : {word : List ℕ} {last : ℕ} → IsNumberWord word last → first ≤ last
      → IsRangeEnd first word (up_to first last word_step)
  steps : {word apart : List ℕ} {last step : ℕ} → IsNumberWord word last → IsNumberWord apart step → first ≤ last
      → 0 < step → IsRangeEnd first (word ++ (codes "/" ++ apart)) (up_to first last step)

-- a word writes places: A; A-B, which is A, A + 4, .. up to B; or A-B/STEP, which is A, A + STEP, .. up to B
pub data IsPlacesWord : List ℕ → Places → Type 0 where
  one : {word : List ℕ} {at : ℕ} → IsNumberWord word at → IsPlacesWord word (up_to at at word_step)
  range : {word behind : List ℕ} {first : ℕ} {places : Places} → IsNumberWord word first
      → IsRangeEnd first behind places → IsPlacesWord (word ++ (codes "-" ++ behind)) places

-- n addresses from one on, so far apart
abbrev pub spaced : ℕ → ℕ → ℕ → List ℕ
spaced first step zero = []
spaced first step (suc n) = first ∷ spaced (first + step) step n

-- the addresses of places
abbrev pub addresses_of : Places → List ℕ
addresses_of places = spaced places.first places.step places.count

-- none of them is past the last address
abbrev pub AreWithin : Places → Type 0
AreWithin places = places.first + places.step * (places.count - 1) < 2 ^ 32
