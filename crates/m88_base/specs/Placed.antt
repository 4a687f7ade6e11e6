-- Runs: bytes at consecutive addresses.
use Rattle.std.specs.Prelude.{ℕ, ◌+◌, ◌-◌, ◌<◌, ◌≤◌, leb, cond, List, [], ◌∷◌, length, slice_get, sum_by, Option, None}
use Rattle.std.specs.Option.{option_or}

-- a run
pub record Placed : Type 0 where
  -- the address of the first byte
  pub at : ℕ
  -- the bytes in order of their addresses
  pub bytes : List ℕ

-- the byte of a run at an address, where it has one
abbrev pub byte_in : Placed → ℕ → Option ℕ
byte_in run a = cond (leb run.at a) (slice_get run.bytes (a - run.at)) None

-- the byte of the first run that has one at an address
abbrev pub byte_among : List Placed → ℕ → Option ℕ
byte_among [] a = None
byte_among (run ∷ runs) a = option_or (byte_in run a) (byte_among runs a)

-- the number of bytes in all runs
abbrev pub count_among : List Placed → ℕ
count_among runs = sum_by (λ run. length run.bytes) runs

-- the runs are in ascending order, each has a byte, and between each two lies an address without one; none begins below
-- `from`
abbrev pub AreApart : ℕ → List Placed → Type 0
AreApart from [] = Unit {0}
AreApart from (run ∷ runs) = (from ≤ run.at) × (0 < length run.bytes) × AreApart (run.at + length run.bytes + 1) runs
