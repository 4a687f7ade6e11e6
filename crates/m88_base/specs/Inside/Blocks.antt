-- Runs in a row that are kept in blocks, and where in the blocks a run stands.
use Rattle.std.specs.Prelude.{◌≡◌, ℕ, ◌+◌, ◌-◌, ◌^◌, ◌<◌, ◌≤◌, List, [], ◌∷◌, ◌++◌, All, length, take, slice_index_or}
use Rattle.m88_base.specs.Placed.{Placed}

-- the runs of all blocks
abbrev pub all_runs : List (List Placed) → List Placed
all_runs [] = []
all_runs (block ∷ blocks) = block ++ all_runs blocks

-- the runs ahead of `inside` in the block `at` are the first `index` of all
pub record IsPlaceInBlocks (blocks : List (List Placed)) (at inside index : ℕ) : Type 0 where
  pub within : at < length blocks
  pub room : inside ≤ length (slice_index_or blocks at [])
  pub sum : length (all_runs (take at blocks)) + inside ≡ index

-- the run at `inside` in the block `at` is the one at `index` of all
pub record IsRunInBlocks (blocks : List (List Placed)) (at inside index : ℕ) : Type 0 where
  pub place : IsPlaceInBlocks blocks at inside index
  pub there : inside < length (slice_index_or blocks at [])

-- no block is empty
abbrev pub AreNonempty : List (List Placed) → Type 0
AreNonempty blocks = All (λ block. 0 < length block) blocks

-- the first n numbers are those of the runs ahead of each block
abbrev pub CountsTo : ℕ → List ℕ → List (List Placed) → Type 0
CountsTo n starts blocks = (k : ℕ) → k < n → slice_index_or starts k 0 ≡ length (all_runs (take k blocks))

-- there is a number for each block, that of the runs ahead of it
pub record IsCounted (starts : List ℕ) (blocks : List (List Placed)) : Type 0 where
  pub long : length starts ≡ length blocks
  pub each : CountsTo (length blocks) starts blocks

-- the runs ahead of each of the first n blocks are counted, and no number of runs is too large to be kept
pub record IsCountedUpTo (n : ℕ) (starts : List ℕ) (blocks : List (List Placed)) : Type 0 where
  pub long : length starts ≡ length blocks
  pub within : n ≤ length blocks
  pub counted : CountsTo n starts blocks
  pub room : length (all_runs blocks) < 2 ^ 64

-- the address at which the first run begins, 0 where there is none
abbrev pub first_start : List Placed → ℕ
first_start [] = 0
first_start (run ∷ runs) = run.at

-- a run of no bytes
abbrev pub no_run : Placed
no_run = record { at = 0; bytes = [] }

-- the run at an index, one of no bytes where there is none
abbrev pub run_at : List Placed → ℕ → Placed
run_at runs index = slice_index_or runs index no_run

-- the address just after the last byte of a run
abbrev pub end_of : Placed → ℕ
end_of run = run.at + length run.bytes

-- a run with bytes behind its own
abbrev pub with_behind : Placed → List ℕ → Placed
with_behind run bytes = record { at = run.at; bytes = run.bytes ++ bytes }

-- a run with bytes ahead of its own
abbrev pub with_ahead : Placed → List ℕ → Placed
with_ahead run bytes = record { at = run.at - length bytes; bytes = bytes ++ run.bytes }
