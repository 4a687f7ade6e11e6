-- Sets of registers as words, a bit for each register ("Control Registers": SSBR). r0 is in no set.
use Rattle.std.specs.Prelude.{ℕ, zero, suc, Bool, false, ◌+◌, ◌^◌, ◌==◌, ◌&&◌, not, if◌then◌else◌}
use Rattle.std.specs.Int.{bit_at}

-- the number that has, of the bits below a count, those of the members of a set
unfoldable pub bits_below : (ℕ → Bool) → ℕ → ℕ
bits_below set zero = 0
bits_below set (suc count) = bits_below set count + (if set count then 2 ^ count else 0)

-- the word of a set of registers
abbrev pub register_bits : (ℕ → Bool) → ℕ
register_bits set = bits_below set 32

-- the set of registers that a word names; bit 0 counts for nothing
abbrev pub registers_in : ℕ → ℕ → Bool
registers_in word zero = false
registers_in word (suc r) = bit_at word (suc r) == 1

-- a set with one register put in or left out; r0 stays out
abbrev pub with_member : ℕ → Bool → (ℕ → Bool) → ℕ → Bool
with_member r there set other = if other == r && not (r == 0) then there else set other
