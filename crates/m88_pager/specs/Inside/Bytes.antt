-- Memory by bytes where its words are told.
use Rattle.std.specs.Prelude.{ℕ, List, ◌≡◌, ◌<◌, ◌≤◌, ◌+◌, ◌^◌, ◌%◌, length, slice_index_or}
use Rattle.m88_base.specs.Pages.{page_bytes}
use Rattle.m88_isa.specs.Address.{word_address}
use Rattle.m88_isa.specs.Lanes.{byte_of}

-- at each address the byte of the word that it lies in
unfoldable pub in_bytes : (ℕ → ℕ) → ℕ → ℕ
in_bytes bus a = byte_of (bus (word_address a)) (a % 4)

-- words are words: each address has a number below 2^32
abbrev pub AreWords : (ℕ → ℕ) → Type 0
AreWords bus = (a : ℕ) → bus a < 2 ^ 32

-- some bytes are those of memory from an address on
abbrev pub HoldsFrom : (ℕ → ℕ) → ℕ → List ℕ → Type 0
HoldsFrom memory start bytes =
    (place : ℕ) → place < length bytes → slice_index_or bytes place 0 ≡ memory (start + place)

-- and as many as a page has
pub record IsPageFrom (memory : ℕ → ℕ) (start : ℕ) (bytes : List ℕ) : Type 0 where
  pub held : HoldsFrom memory start bytes
  pub long : length bytes ≡ page_bytes

-- some bytes more of a page, at least one, which go on to be those of memory
pub record IsPieceMore (memory : ℕ → ℕ) (start : ℕ) (old new : List ℕ) : Type 0 where
  pub held : HoldsFrom memory start old → HoldsFrom memory start new
  pub longer : length old < length new
  pub room : length new ≤ page_bytes
