-- The register file and its scoreboard ("Register Model": general registers; "Exception Processing": the scoreboard
-- holds an instruction that touches a register with a load under way).
use Rattle.std.specs.Prelude.{ℕ, Bool, false, ◌≡◌, ◌==◌, ◌<◌, ◌^◌, List, length, slice_index, if◌then◌else◌}
use Rattle.std.specs.Int.{bit_at}

-- the number in each of the 32 registers, and a word with a bit for each of those that wait for a load
pub record Registers : Type 0 where
  pub numbers : List ℕ
  pub waits : ℕ

-- whether a register waits
unfoldable pub waiting_of : Registers → ℕ → Bool
waiting_of file r = bit_at file.waits r == 1

-- the value that a register shows: 0 while it waits
abbrev pub shown_at : Registers → ℕ → ℕ
shown_at file r = if waiting_of file r then 0 else slice_index file.numbers r

-- no register waits
abbrev pub none_waits : ℕ → Bool
none_waits r = false

-- what holds of every register file: 32 registers, of which r0 is 0 and never waits
pub record IsFile (file : Registers) : Type 0 where
  pub numbers : length file.numbers ≡ 32
  pub waits : file.waits < 2 ^ 32
  pub zero_value : slice_index file.numbers 0 ≡ 0
  pub zero_ready : bit_at file.waits 0 ≡ 0
