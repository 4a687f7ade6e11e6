-- Instructions that are kept by their addresses.
use Rattle.std.specs.Prelude.{ℕ, List, Option, Some, ◌≡◌, ◌%◌, slice_get}
use Rattle.std.specs.Int.{to_be_bytes, w32}
use Rattle.m88_base.specs.Image.{ProgramImage, byte_at}
use Rattle.m88_isa.specs.Machine.{four_bytes}
use Rattle.m88_isa.specs.Word.{IsWord}
use Rattle.m88_isa.specs.declared.instr.Instr.{Instr}
use Rattle.m88_mem.specs.Lines.{IsLine}
use Rattle.m88_mem.specs.declared.lines.Line.{Line}

-- how many are kept at most
abbrev pub line_count : ℕ
line_count = 4096

-- each that is kept is one that was read
abbrev pub AreLines : ProgramImage → List (Option Line) → Type 0
AreLines image lines = (k : ℕ) (line : Line) → slice_get lines k ≡ Some (Some line) → IsLine image line

-- an image has a word at an address, a multiple of 4, and the instruction is that of the word
pub record IsWordAt (image : ProgramImage) (addr word : ℕ) (instr : Instr) : Type 0 where
  pub aligned : addr % 4 ≡ 0
  pub there : four_bytes (byte_at image) addr ≡ Some (to_be_bytes w32 word)
  pub instruction : IsWord instr word
