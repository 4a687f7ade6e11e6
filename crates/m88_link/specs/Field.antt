-- Relocation of a word (object file formats: relocation types): the field that takes the value of a symbol, and the
-- word with that field filled.
use Rattle.std.specs.Prelude.{ℕ, ◌+◌, ◌-◌, ◌*◌, ◌/◌, ◌%◌, ◌^◌, Bool, true, ◌&&◌, ◌||◌, ◌==◌, nat_lt, nat_le}
use Rattle.m88_base.specs.declared.fixup.Kind.{Kind}
use Rattle.m88_base.specs.declared.fixup.Kind.TheVariants.{Hi16, Lo16, Pc26, Pc16, Abs32}

-- the number of low bits of the word that are the field
abbrev pub field_width : Kind → ℕ
field_width Hi16 = 16
field_width Lo16 = 16
field_width Pc26 = 26
field_width Pc16 = 16
field_width Abs32 = 32

-- the displacement from an address to a target, modulo 2 ^ 32
abbrev pub distance : ℕ → ℕ → ℕ
distance target at = (target + (2 ^ 32 - at)) % 2 ^ 32

-- what the field of the word at an address takes of its target, the symbol's value plus the addend: a half of it, the
-- displacement in words, or all of it
abbrev pub field_value : Kind → ℕ → ℕ → ℕ
field_value Hi16 target at = target / 2 ^ 16
field_value Lo16 target at = target % 2 ^ 16
field_value Pc26 target at = distance target at / 4 % 2 ^ 26
field_value Pc16 target at = distance target at / 4 % 2 ^ 16
field_value Abs32 target at = target

-- the word with its field filled, and all its other bits as they were
abbrev pub patched_word : Kind → ℕ → ℕ → ℕ → ℕ
patched_word kind word target at = word / 2 ^ field_width kind * 2 ^ field_width kind + field_value kind target at

-- the displacement is a multiple of 4, and as a signed number of words it fits a field of this many bits
abbrev pub is_near : ℕ → ℕ → Bool
is_near width d = d % 4 == 0 && (nat_lt d (2 ^ (width + 1)) || nat_le (2 ^ 32 - 2 ^ (width + 1)) d)

-- the field can take what it is to take of the target; only a displacement can be too far
abbrev pub is_in_reach : Kind → ℕ → ℕ → Bool
is_in_reach Pc26 target at = is_near 26 (distance target at)
is_in_reach Pc16 target at = is_near 16 (distance target at)
is_in_reach _ target at = true
