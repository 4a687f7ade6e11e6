-- The values of the registers so far are those that are shown.
use Rattle.std.proofs.Common.{◌≡◌, ◌<◌, ℕ, List, true, false, length, slice_index, ◌==◌}
use Rattle.std.specs.Int.{bit_at}
use Rattle.m88_scoreboard.proofs.reg_file.RegFile.values.Given as goal

-- below r the values are those that are shown, and from r on the numbers
pub record Shown (numbers : List ℕ) (waits : ℕ) (values : List ℕ) (r : ℕ) : Type 0 where
  pub long : length values ≡ 32
  pub ready : (k : ℕ) → k < 32 → (bit_at waits k == 1) ≡ false → slice_index values k ≡ slice_index numbers k
  pub hidden : (k : ℕ) → k < r → (bit_at waits k == 1) ≡ true → slice_index values k ≡ 0

abbrev pub invariant-loop-r : goal.invariant-loop-r
invariant-loop-r l = Shown l.self.numbers l.self.waits l.values l.r
