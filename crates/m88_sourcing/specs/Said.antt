-- What is said of an image beside its bytes.
use Rattle.std.specs.Prelude.{ℕ, List, [], Contains, flat_map, map}
use Rattle.m88_isa.specs.Address.{word_address}
use Rattle.m88_sourcing.specs.Places.{addresses_of}
use Rattle.m88_sourcing.specs.declared.hint.Hint.{Hint}
use Rattle.m88_sourcing.specs.declared.hint.Hint.TheVariants.{Enters, Fixes, Starts}
use Rattle.m88_sourcing.specs.declared.said.Said.{Said as Kept}

-- the addresses at which code begins besides the start, and those among them whose words stay where they are: the chip, or
-- a program elsewhere, goes there
pub record Said : Type 0 where
  pub entries : List ℕ
  pub fixed : List ℕ

-- the same, as the code keeps it
abbrev pub told : Kept → Said
told s = record { entries = s.entries.items; fixed = s.fixed.items }

-- the addresses at which code begins by a hint
abbrev pub entries_in : Hint → List ℕ
entries_in (Enters places) = addresses_of places
entries_in (Fixes places) = addresses_of places
entries_in (Starts at) = []

-- those whose words stay by it
abbrev pub fixed_in : Hint → List ℕ
fixed_in (Fixes places) = addresses_of places
fixed_in hint = []

-- what hints say
abbrev pub said_of : List Hint → Said
said_of hints = record { entries = flat_map entries_in hints; fixed = flat_map fixed_in hints }

-- the word at an address stays there
abbrev pub Stays : Said → ℕ → Type 0
Stays said a = Contains (map word_address said.fixed) a
