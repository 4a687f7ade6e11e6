-- What is found at addresses, where a look-up tells the byte at each address that has one.
use Rattle.std.specs.Prelude.{◌≡◌, ℕ, ◌+◌, ◌^◌, ◌<◌, ◌≤◌, List, [], ◌∷◌, length, slice_get, Option, None, IsSome, IfSome, unwrap_or}

-- the address is one of the n from `at` on
abbrev pub IsWithin : ℕ → ℕ → ℕ → Type 0
IsWithin at n a = (at ≤ a) × (a < at + n)

-- the least of the n addresses from `at` on that have a byte
abbrev pub IsLeastTaken : (ℕ → Option ℕ) → ℕ → ℕ → ℕ → Type 0
IsLeastTaken found at n a = IsWithin at n a × IsSome (found a) × ((b : ℕ) → at ≤ b → b < a → found b ≡ None)

-- each address that has a byte is below 2 ^ 32, and its byte is below 256
abbrev pub FindsBytes : (ℕ → Option ℕ) → Type 0
FindsBytes found = (a : ℕ) → IfSome (found a) (λ b. (a < 2 ^ 32) × (b < 256))

-- none of the n addresses from `at` on has a byte
abbrev pub IsFree : (ℕ → Option ℕ) → ℕ → ℕ → Type 0
IsFree found at n = (a : ℕ) → IsWithin at n a → found a ≡ None

-- bytes that stand for the addresses from `at` on, after what is found there was written over them: each is the byte
-- found at its address, and stays as it was where none is found
abbrev pub filled : (ℕ → Option ℕ) → ℕ → List ℕ → List ℕ
filled found at [] = []
filled found at (b ∷ bytes) = unwrap_or (found at) b ∷ filled found (at + 1) bytes

-- what is found is what was found before, but for the bytes put from `at` on
pub record PutsBytes (old new : ℕ → Option ℕ) (at : ℕ) (bytes : List ℕ) : Type 0 where
  pub there : (k : ℕ) → k < length bytes → new (at + k) ≡ slice_get bytes k
  pub below : (a : ℕ) → a < at → new a ≡ old a
  pub above : (a : ℕ) → at + length bytes ≤ a → new a ≡ old a

-- the bytes are all that stand at consecutive addresses round `at`: each is found in its place, and nothing just below
-- and just above them
pub record IsPart (found : ℕ → Option ℕ) (at : ℕ) (bytes : List ℕ) : Type 0 where
  pub some : 0 < length bytes
  pub there : (k : ℕ) → k < length bytes → found (at + k) ≡ slice_get bytes k
  pub below : (a : ℕ) → a + 1 ≡ at → found a ≡ None
  pub above : found (at + length bytes) ≡ None
