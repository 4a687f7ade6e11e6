-- The text of each instruction, a line for each form ("Instruction Set": the assembler syntax of each instruction). It
-- is the mnemonic, a blank, and the operands with a comma between each two and no other blank. Numbers are decimal,
-- without needless zeros.
use Rattle.std.specs.Prelude.{ℕ, ℤ, pos, negsuc, Bool, true, false, ◌+◌, ◌*◌, ◌==◌, List, [], ◌∷◌, ◌++◌, codes, decimal, flat_map, if◌then◌else◌}
use Rattle.m88_base.specs.Hex.{hex8}
use Rattle.m88_base.specs.Reg.{number_of}
use Rattle.m88_base.specs.declared.reg.Reg.{Reg}
use Rattle.m88_isa.specs.Word.{word_of}
use Rattle.m88_isa.specs.declared.instr.BitOp.{BitOp}
use Rattle.m88_isa.specs.declared.instr.BitOp.TheVariants.{Rot}
use Rattle.m88_isa.specs.declared.instr.Instr.{Instr}
use Rattle.m88_isa.specs.declared.instr.Instr.TheVariants as instr
use Rattle.m88_isa.specs.Names.{imm_name, reg_name, mem_name, index_name, lda_name, bits_name, find_name, branch_name, branch_bit_name, branch_cond_name, jump_name, trap_bit_name, trap_cond_name, bound_name, return_name, ldcr_name, stcr_name, xcr_name}

-- a register: r and its number
abbrev pub register_name : Reg → List ℕ
register_name r = codes "r" ++ decimal (number_of r)

-- a register and the one that is scaled, in brackets
abbrev pub scaled : Reg → Reg → List ℕ
scaled s1 s2 = register_name s1 ++ codes "[" ++ register_name s2 ++ codes "]"

-- rD,rS1[rS2], or rD,rS1,rS2 where the index isn't scaled
abbrev pub index_operands : Reg → Reg → Reg → Bool → List (List ℕ)
index_operands d s1 s2 true = register_name d ∷ scaled s1 s2 ∷ []
index_operands d s1 s2 false = register_name d ∷ register_name s1 ∷ register_name s2 ∷ []

-- a control register: cr, of the floating-point unit fcr, and its number
abbrev pub control : Bool → ℕ → List ℕ
control false cr = codes "cr" ++ decimal cr
control true cr = codes "fcr" ++ decimal cr

-- a bit field: its width and, in angle brackets, its offset; a rotation has the offset alone
abbrev pub field : BitOp → ℕ → ℕ → List ℕ
field Rot width offset = codes "<" ++ decimal offset ++ codes ">"
field op width offset = decimal width ++ codes "<" ++ decimal offset ++ codes ">"

-- the mask of a condition: its name where it has one, else its number
unfoldable pub condition : ℕ → List ℕ
condition mask =
    if mask == 1 then codes "gt0" else (if mask == 2 then codes "eq0" else (if mask == 3 then codes "ge0"
    else (if mask == 12 then codes "lt0" else (if mask == 13 then codes "ne0" else (if mask == 14 then codes "le0"
    else decimal mask)))))

-- the target that is so many words on, or back: the distance in bytes from the instruction itself, +0 for none
abbrev pub target_operand : ℤ → List ℕ
target_operand (pos n) = codes ".+" ++ decimal (4 * n)
target_operand (negsuc n) = codes ".-" ++ decimal (4 * (n + 1))

-- the operands behind a mnemonic
abbrev pub operands_text : List (List ℕ) → List ℕ
operands_text [] = []
operands_text (first ∷ others) = codes " " ++ first ++ flat_map (λ operand. codes "," ++ operand) others

-- the name of an operation and its operands
abbrev pub spelled : List ℕ → List (List ℕ) → List ℕ
spelled name operands = name ++ operands_text operands

-- 0x and the eight digits of a word
abbrev pub hexadecimal : ℕ → List ℕ
hexadecimal n = codes "0x" ++ hex8 n

-- a word by itself
abbrev pub word_text : ℕ → List ℕ
word_text word = codes ".word " ++ hexadecimal word

-- the text of an instruction: immediates, memory, three registers, bit fields, flow, traps, control registers; a word
-- of a special function unit has no mnemonic
unfoldable pub instr_text : Instr → List ℕ
instr_text (instr.Imm op d s1 imm) = spelled (imm_name op) (register_name d ∷ register_name s1 ∷ decimal imm ∷ [])
instr_text (instr.MemImm op d s1 imm) = spelled (mem_name op) (register_name d ∷ register_name s1 ∷ decimal imm ∷ [])
instr_text (instr.MemReg op d s1 s2 scaled usr) = spelled (index_name op usr) (index_operands d s1 s2 scaled)
instr_text (instr.Lda size d s1 s2) = spelled (lda_name size) (register_name d ∷ scaled s1 s2 ∷ [])
instr_text (instr.Regs op d s1 s2) = spelled (reg_name op) (register_name d ∷ register_name s1 ∷ register_name s2 ∷ [])
instr_text (instr.BitLit op d s1 width offset) =
    spelled (bits_name op) (register_name d ∷ register_name s1 ∷ field op width offset ∷ [])
instr_text (instr.BitReg op d s1 s2) =
    spelled (bits_name op) (register_name d ∷ register_name s1 ∷ register_name s2 ∷ [])
instr_text (instr.Find ones d s2) = spelled (find_name ones) (register_name d ∷ register_name s2 ∷ [])
instr_text (instr.Branch link delayed words) = spelled (branch_name link delayed) (target_operand words ∷ [])
instr_text (instr.BranchBit set delayed bit s1 words) =
    spelled (branch_bit_name set delayed) (decimal bit ∷ register_name s1 ∷ target_operand words ∷ [])
instr_text (instr.BranchCond delayed mask s1 words) =
    spelled (branch_cond_name delayed) (condition mask ∷ register_name s1 ∷ target_operand words ∷ [])
instr_text (instr.Jump link delayed s2) = spelled (jump_name link delayed) (register_name s2 ∷ [])
instr_text (instr.TrapBit set bit s1 vector) =
    spelled (trap_bit_name set) (decimal bit ∷ register_name s1 ∷ decimal vector ∷ [])
instr_text (instr.TrapCond mask s1 vector) =
    spelled trap_cond_name (condition mask ∷ register_name s1 ∷ decimal vector ∷ [])
instr_text (instr.BoundImm s1 imm) = spelled bound_name (register_name s1 ∷ decimal imm ∷ [])
instr_text (instr.BoundReg s1 s2) = spelled bound_name (register_name s1 ∷ register_name s2 ∷ [])
instr_text instr.Rte = spelled return_name []
instr_text (instr.Ldcr d cr float) = spelled (ldcr_name float) (register_name d ∷ control float cr ∷ [])
instr_text (instr.Stcr s1 cr float) = spelled (stcr_name float) (register_name s1 ∷ control float cr ∷ [])
instr_text (instr.Xcr d s1 cr float) =
    spelled (xcr_name float) (register_name d ∷ register_name s1 ∷ control float cr ∷ [])
instr_text (instr.Sfu unit rest) = word_text (word_of (instr.Sfu unit rest))
