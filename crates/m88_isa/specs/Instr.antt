-- Which instructions there are: the range of every number that an instruction has beside its registers
-- ("Instruction Set" of the user's manual, the field sizes of each form).
use Rattle.std.specs.Prelude.{ℕ, ℤ, pos, negsuc, ◌≡◌, ◌<◌, ◌≤◌, ◌^◌}
use Rattle.m88_isa.specs.declared.instr.BitOp.{BitOp}
use Rattle.m88_isa.specs.declared.instr.BitOp.TheVariants.{Rot}
use Rattle.m88_isa.specs.declared.instr.Instr.{Instr}
use Rattle.m88_isa.specs.declared.instr.Instr.TheVariants as instr

-- a literal width has five bits, and that of a rotation is 0
abbrev pub IsWidth : BitOp → ℕ → Type 0
IsWidth Rot width = width ≡ 0
IsWidth _ width = width < 32

-- a signed count of words fits a sign and this many further bits: -2^bits up to 2^bits - 1
abbrev pub FitsWords : ℕ → ℤ → Type 0
FitsWords bits (pos n) = n < 2 ^ bits
FitsWords bits (negsuc n) = n < 2 ^ bits

-- every number of the instruction is in the range of its field
abbrev pub IsValid : Instr → Type 0
IsValid (instr.Imm op d s1 imm) = imm < 2 ^ 16
IsValid (instr.Regs op d s1 s2) = Unit {0}
IsValid (instr.MemImm op d s1 imm) = imm < 2 ^ 16
IsValid (instr.MemReg op d s1 s2 scaled usr) = Unit {0}
IsValid (instr.Lda size d s1 s2) = Unit {0}
IsValid (instr.BitLit op d s1 width offset) = IsWidth op width × (offset < 32)
IsValid (instr.BitReg op d s1 s2) = Unit {0}
IsValid (instr.Find ones d s2) = Unit {0}
IsValid (instr.Branch link delayed words) = FitsWords 25 words
IsValid (instr.BranchBit set delayed bit s1 words) = (bit < 32) × FitsWords 15 words
IsValid (instr.BranchCond delayed mask s1 words) = (mask < 16) × FitsWords 15 words
IsValid (instr.Jump link delayed s2) = Unit {0}
IsValid (instr.TrapBit set bit s1 vector) = (bit < 32) × (vector < 512)
IsValid (instr.TrapCond mask s1 vector) = (mask < 16) × (vector < 512)
IsValid (instr.BoundImm s1 imm) = imm < 2 ^ 16
IsValid (instr.BoundReg s1 s2) = Unit {0}
IsValid instr.Rte = Unit {0}
IsValid (instr.Ldcr d cr float) = cr < 64
IsValid (instr.Stcr s1 cr float) = cr < 64
IsValid (instr.Xcr d s1 cr float) = cr < 64
IsValid (instr.Sfu unit rest) = (1 ≤ unit) × (unit < 8) × (rest < 2 ^ 26)
