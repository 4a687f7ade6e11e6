-- What the bit-field and find instructions compute ("Instruction Set": bit-field instructions). A field has a width of
-- 1 to 32 bits and an offset of 0 to 31, the number of its lowest bit; bits above bit 31 don't exist.
use Rattle.std.specs.Prelude.{ℕ, Bool, ◌+◌, ◌-◌, ◌*◌, ◌/◌, ◌%◌, ◌^◌, ◌==◌, nat_le, bit_and, bit_or, if◌then◌else◌}
use Rattle.std.specs.Int.{bit_not, cast_unsigned, int_shr, leading_zeros, rotate_right, w32}
use Rattle.m88_isa.specs.Compute.{signed}
use Rattle.m88_isa.specs.declared.instr.BitOp.{BitOp}
use Rattle.m88_isa.specs.declared.instr.BitOp.TheVariants.{Clr, Set, Ext, Extu, Mak, Rot}

-- the width that a five-bit field gives: 0 means 32
abbrev pub width_of : ℕ → ℕ
width_of n = if n == 0 then 32 else n

-- the width that a register gives: bits 9 to 5
abbrev pub width_in : ℕ → ℕ
width_in t = width_of (t / 2 ^ 5 % 2 ^ 5)

-- the offset that a register gives: bits 4 to 0
abbrev pub offset_in : ℕ → ℕ
offset_in t = t % 2 ^ 5

-- the word whose ones are the bits of the field, those above bit 31 left out
abbrev pub ones : ℕ → ℕ → ℕ
ones width offset = (2 ^ width - 1) * 2 ^ offset % 2 ^ 32

-- the field at the low end of a word; where it reaches bit 31 this is s shifted right by the offset
abbrev pub extract : ℕ → ℕ → ℕ → ℕ
extract s width offset = if nat_le 32 (offset + width) then s / 2 ^ offset else s / 2 ^ offset % 2 ^ width

-- a field of fewer than 32 bits with its highest bit carried on to bit 31
abbrev pub sign_extend : ℕ → ℕ → ℕ
sign_extend field width = if nat_le (2 ^ (width - 1)) field then field + (2 ^ 32 - 2 ^ width) else field

-- the same with sign: where it reaches bit 31 the shift is arithmetic
abbrev pub extract_signed : ℕ → ℕ → ℕ → ℕ
extract_signed s width offset =
    if nat_le 32 (offset + width) then cast_unsigned w32 (int_shr (signed s) offset)
    else sign_extend (s / 2 ^ offset % 2 ^ width) width

-- the low bits of a word moved up to the field
abbrev pub make : ℕ → ℕ → ℕ → ℕ
make s width offset = s % 2 ^ width * 2 ^ offset % 2 ^ 32

-- the bit-field mnemonics, of the word s, a width and an offset
abbrev pub bit_field : BitOp → ℕ → ℕ → ℕ → ℕ
bit_field Clr s width offset = bit_and s (bit_not w32 (ones width offset))
bit_field Set s width offset = bit_or s (ones width offset)
bit_field Ext s width offset = extract_signed s width offset
bit_field Extu s width offset = extract s width offset
bit_field Mak s width offset = make s width offset
bit_field Rot s width offset = rotate_right w32 s offset

-- the number of the highest bit that is set, or 32 where none is
abbrev pub highest_one : ℕ → ℕ
highest_one n = if n == 0 then 32 else 31 - leading_zeros w32 n

-- the number of the highest bit that is set, or that is clear, or 32
abbrev pub find_bit : Bool → ℕ → ℕ
find_bit ones n = if ones then highest_one n else highest_one (bit_not w32 n)
