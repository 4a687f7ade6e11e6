-- What the records of an S-record text load: a byte at each address that one of them gives, none twice.
use Rattle.std.specs.Prelude.{ℕ, zero, suc, Bool, List, Option, Some, None, ◌+◌, ◌^◌, ◌||◌, length, nat_lt}
use Rattle.std.specs.Option.{option_or}
use Rattle.m88_base.specs.Placed.{byte_in}
use Rattle.m88_base.specs.Image.{most_bytes}

-- what has been loaded: the byte at an address, where there is one, and the number of such addresses
pub record Loaded : Type 0 where
  pub found : ℕ → Option ℕ
  pub count : ℕ

-- nothing
abbrev pub nothing_loaded : Loaded
nothing_loaded = record { found = λ a. None; count = 0 }

-- with data from an address on, behind what was there before
abbrev pub with_data : ℕ → List ℕ → Loaded → Loaded
with_data at data_bytes loaded = record {
  found = λ a. option_or (loaded.found a) (byte_in (record { at = at; bytes = data_bytes }) a);
  count = loaded.count + length data_bytes;
}

-- n bytes from an address on would pass the last address, or be more than an image has
abbrev pub is_beyond : ℕ → ℕ → Loaded → Bool
is_beyond at n loaded = nat_lt (2 ^ 32) (at + n) || nat_lt most_bytes (loaded.count + n)

-- what a look at one address finds first, and else what is found later
abbrev pub first_taken_at : Option ℕ → ℕ → Option ℕ → Option ℕ
first_taken_at (Some byte) at later = Some at
first_taken_at None at later = later

-- the least of the n addresses from one on that has a byte
unfoldable pub first_taken : (ℕ → Option ℕ) → ℕ → ℕ → Option ℕ
first_taken found at zero = None
first_taken found at (suc n) = first_taken_at (found at) at (first_taken found (at + 1) n)
