-- What is found at the address of the next instruction, and what is raised where there is none.
use Rattle.std.specs.Prelude.{ℕ, false, None, Result, Ok, Err, OnOk, ◌≡◌, ◌%◌, ◌⊎◌}
use Rattle.m88_base.specs.Image.{ProgramImage, byte_at}
use Rattle.m88_isa.specs.Machine.{by_vector, four_bytes}
use Rattle.m88_isa.specs.Vector.{instruction_access, unimplemented}
use Rattle.m88_isa.specs.Word.{IsWord}
use Rattle.m88_isa.specs.declared.instr.Instr.{Instr}
use Rattle.m88_mem.specs.Lines.{IsLine}
use Rattle.m88_mem.specs.declared.lines.Line.{Line}
use Rattle.m88_board.specs.Board.{BoardView, pc_of}
use Rattle.m88_board.specs.Inside.Turns.{HasTurn, IsDue, IssueComesTo, stopping}
use Rattle.m88_board.specs.Told.{IsWordOf}

-- an image has no instruction at an address, and so a vector is raised: a byte of the word is lacking, or the word is
-- no instruction
abbrev pub HasNoInstruction : ProgramImage → ℕ → ℕ → Type 0
HasNoInstruction image addr vector =
    ((four_bytes (byte_at image) addr ≡ None) × (vector ≡ instruction_access))
    ⊎ ((word : ℕ) × IsWordOf (four_bytes (byte_at image) addr) word × ((i : Instr) → ¬ IsWord i word)
    × (vector ≡ unimplemented))

-- what is found at an address: its instruction, or the vector that is raised
abbrev pub IsFoundAt : ProgramImage → ℕ → Result Line ℕ → Type 0
IsFoundAt image addr (Ok line) = (line.addr ≡ addr) × IsLine image line
IsFoundAt image addr (Err vector) = HasNoInstruction image addr vector

-- what is found at the address of the next instruction, a multiple of 4; an instruction that is found was fetched
pub record IsFoundNext (found : Result Line ℕ) (b : BoardView) : Type 0 where
  pub due : IsDue b
  pub aligned : pc_of b.slots % 4 ≡ 0
  pub found_there : IsFoundAt b.memory.image (pc_of b.slots) found
  pub unmarked : OnOk found (b.slots.nip.e ≡ false)

-- what is read at an address of an image: a word and its instruction, or the vector that is raised
abbrev pub IsReadAt : ProgramImage → ℕ → Result (ℕ × Instr) ℕ → Type 0
IsReadAt image addr (Ok read) = IsWordOf (four_bytes (byte_at image) addr) read.0 × IsWord read.1 read.0
IsReadAt image addr (Err vector) = HasNoInstruction image addr vector

-- the next instruction, which has its turn, or the vector that is raised where there is none
abbrev pub IsUpcoming : Result Instr ℕ → BoardView → Type 0
IsUpcoming (Ok i) b = HasTurn i b
IsUpcoming (Err vector) b = IssueComesTo (stopping (by_vector vector (pc_of b.slots)) b.pending) b
