-- Instructions that were read from an image.
use Rattle.std.specs.Prelude.{Some, ◌≡◌, ◌%◌, bit_or, is_none}
use Rattle.std.specs.Int.{to_be_bytes, w32}
use Rattle.m88_base.specs.Image.{ProgramImage, byte_at}
use Rattle.m88_isa.specs.Address.{after_bytes}
use Rattle.m88_isa.specs.Machine.{four_bytes}
use Rattle.m88_isa.specs.Operands.{uses_of, writes_of}
use Rattle.m88_isa.specs.Word.{IsWord}
use Rattle.m88_mem.specs.declared.lines.Line.{Line}

-- the registers that are kept of an instruction are those that it uses or writes
abbrev pub HasInvolved : Line → Type 0
HasInvolved line = line.involved ≡ bit_or (uses_of line.instr) (writes_of line.instr)

-- the word is the one at the address, a multiple of 4, the instruction is that of the word, and the mark says whether a
-- byte of the word behind it is lacking
pub record IsLine (image : ProgramImage) (line : Line) : Type 0 where
  pub aligned : line.addr % 4 ≡ 0
  pub word : four_bytes (byte_at image) line.addr ≡ Some (to_be_bytes w32 line.word)
  pub instruction : IsWord line.instr line.word
  pub involved : HasInvolved line
  pub behind : line.lacks_behind ≡ is_none (four_bytes (byte_at image) (after_bytes line.addr 4))
