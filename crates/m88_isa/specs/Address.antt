-- Byte addresses, all modulo 2^32 ("Instruction Set": load address; load and store instructions).
use Rattle.std.specs.Prelude.{ℕ, ◌+◌, ◌*◌, ◌/◌, ◌%◌, ◌^◌}
use Rattle.m88_isa.specs.declared.instr.LdaSize.{LdaSize}
use Rattle.m88_isa.specs.declared.instr.LdaSize.TheVariants.{Double, Word, Half}

-- the address some bytes on
abbrev pub after_bytes : ℕ → ℕ → ℕ
after_bytes place bytes = (place + bytes) % 2 ^ 32

-- the address of the word that a byte lies in: its two low bits are cleared
abbrev pub word_address : ℕ → ℕ
word_address place = place / 4 * 4

-- a base and a scaled index
abbrev pub address : ℕ → ℕ → ℕ → ℕ
address base index scale = (base + index * scale) % 2 ^ 32

-- the bytes of the item by which a load of an address scales its index
abbrev pub scale_of : LdaSize → ℕ
scale_of Double = 8
scale_of Word = 4
scale_of Half = 2
