-- The opening bits of the forms that leave no field of a word unused.
use Rattle.std.specs.Prelude.{ℕ, Bool, ◌&&◌, ◌||◌, nat_le}

-- each word with these six opening bits has an instruction: memory with an immediate, logic and arithmetic with an
-- immediate, the special function units, and the branches `br`, `bsr`, `bb0` and `bb1`
abbrev pub leaves_no_field_unused : ℕ → Bool
leaves_no_field_unused head =
    nat_le head 11 || (nat_le 16 head && nat_le head 31) || (nat_le 33 head && nat_le head 39)
    || (nat_le 48 head && nat_le head 55)
