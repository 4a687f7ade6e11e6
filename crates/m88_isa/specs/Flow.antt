-- The target of a branch, the conditions of branches and traps, and where the program goes on ("Instruction Set":
-- flow-control instructions).
use Rattle.std.specs.Prelude.{ℕ, ℤ, Bool, true, ◌≡◌, ◌+◌, ◌*◌, ◌%◌, ◌^◌, ◌==◌, nat_lt, if◌then◌else◌}
use Rattle.std.specs.Int.{bit_at, cast_unsigned, w32}
use Rattle.m88_isa.specs.Address.{after_bytes}
use Rattle.m88_isa.specs.Compute.{weight_if}

-- the address a signed count of words away
abbrev pub words_away : ℕ → ℤ → ℕ
words_away pc words = (pc + 4 * cast_unsigned w32 words) % 2 ^ 32

-- the condition of `bb1`, `tb1` (set) and of `bb0`, `tb0`
abbrev pub bit_is : Bool → ℕ → ℕ → Bool
bit_is set bit s = bit_at s bit == weight_if set 1

-- the class of a word, a bit of a condition mask: 1 is 0, 3 is -2^31, 2 another negative word, 0 a positive one
abbrev pub class_of : ℕ → ℕ
class_of s = if s == 0 then 1 else if s == 2 ^ 31 then 3 else if nat_lt (2 ^ 31) s then 2 else 0

-- the condition of `bcnd` and `tcnd`: the mask has the bit of the word's class
abbrev pub class_in : ℕ → ℕ → Bool
class_in mask s = bit_at mask (class_of s) == 1

-- where an instruction goes on: the two instructions that follow stand at multiples of 4, and where one that was
-- fetched is passed over, the second stands right behind the first
pub record FlowFits (after : ℕ × ℕ) (bubble : Bool) : Type 0 where
  pub here : after.0 % 4 ≡ 0
  pub behind : after.1 % 4 ≡ 0
  pub straight : bubble ≡ true → after.1 ≡ after_bytes after.0 4
