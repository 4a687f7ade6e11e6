-- The program of an image: what a machine runs where there is no source.
use Rattle.std.specs.Prelude.{ℕ, Option, Some, MatchOption, ◌≡◌, ◌%◌}
use Rattle.std.specs.Int.{to_be_bytes, w32}
use Rattle.m88_base.specs.Image.{ProgramImage, byte_at}
use Rattle.m88_isa.specs.Machine.{Program, four_bytes}
use Rattle.m88_isa.specs.Word.{IsWord}
use Rattle.m88_isa.specs.declared.instr.Instr.{Instr}

-- the four bytes at an address, a multiple of 4, are the word of an instruction
abbrev pub HasWordOf : (ℕ → Option ℕ) → ℕ → Instr → Type 0
HasWordOf byte a i =
    (a % 4 ≡ 0) × ((word : ℕ) × (four_bytes byte a ≡ Some (to_be_bytes w32 word)) × IsWord i word)

-- the instruction at an address, or none where the bytes there are the word of none
abbrev pub IsInstructionAt : (ℕ → Option ℕ) → ℕ → Option Instr → Type 0
IsInstructionAt byte a instruction =
    MatchOption instruction ((i : Instr) → HasWordOf byte a i → ⊥) (HasWordOf byte a)

-- a program is that of an image: it has its start, its bytes, and at each address the instruction that is there
pub record IsProgramOf (image : ProgramImage) (p : Program) : Type 0 where
  pub start : p.start ≡ image.start
  pub bytes : p.byte ≡ byte_at image
  pub instructions : (a : ℕ) → IsInstructionAt (byte_at image) a (p.instruction a)
