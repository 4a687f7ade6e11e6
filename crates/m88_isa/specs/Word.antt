-- The word table: the word of each instruction as the sum of its fields ("Instruction Set": the instruction
-- formats and the opcode of each mnemonic). Fields that a form lacks hold 0, and a word that no line gives
-- is no instruction: that is this project's profile. Bits are counted from 0 at the low end.
use Rattle.std.specs.Prelude.{ℕ, ℤ, ◌≡◌, ◌+◌, ◌*◌, ◌^◌, ◌%◌, if◌then◌else◌}
use Rattle.std.specs.Int.{cast_unsigned, w16, w32}
use Rattle.m88_base.specs.Reg.{number_of}
use Rattle.m88_isa.specs.Compute.{weight_if}
use Rattle.m88_isa.specs.Instr.{IsValid}
use Rattle.m88_isa.specs.declared.instr.ImmOp.{ImmOp}
use Rattle.m88_isa.specs.declared.instr.MemOp.{MemOp}
use Rattle.m88_isa.specs.declared.instr.MemOp.TheVariants as memop
use Rattle.m88_isa.specs.declared.instr.RegOp.{RegOp}
use Rattle.m88_isa.specs.declared.instr.LdaSize.{LdaSize}
use Rattle.m88_isa.specs.declared.instr.LdaSize.TheVariants.{Double, Word, Half}
use Rattle.m88_isa.specs.declared.instr.BitOp.{BitOp}
use Rattle.m88_isa.specs.declared.instr.BitOp.TheVariants.{Clr, Set, Ext, Extu, Mak, Rot}
use Rattle.m88_isa.specs.declared.instr.Instr.{Instr}
use Rattle.m88_isa.specs.declared.instr.Instr.TheVariants as instr
use Rattle.m88_isa.specs.declared.instr.ImmOp.TheVariants as immop
use Rattle.m88_isa.specs.declared.instr.RegOp.TheVariants as regop

-- the first byte of a word, bits 31 to 24
abbrev pub first_byte : ℕ → ℕ
first_byte byte = byte * 2 ^ 24

-- the place of D, bits 25 to 21: a register, a bit number or a condition mask
abbrev pub at_d : ℕ → ℕ
at_d n = n * 2 ^ 21

-- the place of S1, bits 20 to 16
abbrev pub at_s1 : ℕ → ℕ
at_s1 n = n * 2 ^ 16

-- the number of a control register in bits 10 to 5
abbrev pub at_cr : ℕ → ℕ
at_cr cr = cr * 2 ^ 5

-- the width of a bit field in bits 9 to 5
abbrev pub at_width : ℕ → ℕ
at_width width = width * 2 ^ 5

-- a count of words in 16 bits, in two's complement
abbrev pub low16 : ℤ → ℕ
low16 words = cast_unsigned w16 words

-- a count of words in 26 bits, in two's complement
abbrev pub low26 : ℤ → ℕ
low26 words = cast_unsigned w32 words % 2 ^ 26

-- the first byte of a memory mnemonic; D reaches into its two low bits
abbrev pub mem_byte : MemOp → ℕ
mem_byte memop.XmemBu = 0x00
mem_byte memop.Xmem = 0x04
mem_byte memop.LdHu = 0x08
mem_byte memop.LdBu = 0x0C
mem_byte memop.LdD = 0x10
mem_byte memop.Ld = 0x14
mem_byte memop.LdH = 0x18
mem_byte memop.LdB = 0x1C
mem_byte memop.StD = 0x20
mem_byte memop.St = 0x24
mem_byte memop.StH = 0x28
mem_byte memop.StB = 0x2C

-- the first byte of an immediate mnemonic; D reaches into its two low bits
abbrev pub imm_byte : ImmOp → ℕ
imm_byte immop.And = 0x40
imm_byte immop.AndU = 0x44
imm_byte immop.Mask = 0x48
imm_byte immop.MaskU = 0x4C
imm_byte immop.Xor = 0x50
imm_byte immop.XorU = 0x54
imm_byte immop.Or = 0x58
imm_byte immop.OrU = 0x5C
imm_byte immop.Addu = 0x60
imm_byte immop.Subu = 0x64
imm_byte immop.Divu = 0x68
imm_byte immop.Mul = 0x6C
imm_byte immop.Add = 0x70
imm_byte immop.Sub = 0x74
imm_byte immop.Div = 0x78
imm_byte immop.Cmp = 0x7C

-- the code of a mnemonic on three registers, in bits 15 to 8
abbrev pub reg_code : RegOp → ℕ
reg_code regop.And = 0x4000
reg_code regop.AndC = 0x4400
reg_code regop.Xor = 0x5000
reg_code regop.XorC = 0x5400
reg_code regop.Or = 0x5800
reg_code regop.OrC = 0x5C00
reg_code regop.Addu = 0x6000
reg_code regop.Subu = 0x6400
reg_code regop.Divu = 0x6800
reg_code regop.Mul = 0x6C00
reg_code regop.Add = 0x7000
reg_code regop.Sub = 0x7400
reg_code regop.Div = 0x7800
reg_code regop.Cmp = 0x7C00
reg_code regop.AdduCo = 0x6100
reg_code regop.AdduCi = 0x6200
reg_code regop.AdduCio = 0x6300
reg_code regop.SubuCo = 0x6500
reg_code regop.SubuCi = 0x6600
reg_code regop.SubuCio = 0x6700
reg_code regop.AddCo = 0x7100
reg_code regop.AddCi = 0x7200
reg_code regop.AddCio = 0x7300
reg_code regop.SubCo = 0x7500
reg_code regop.SubCi = 0x7600
reg_code regop.SubCio = 0x7700

-- the code of a load of an address, in bits 15 to 8
abbrev pub lda_code : LdaSize → ℕ
lda_code Double = 0x3200
lda_code Word = 0x3600
lda_code Half = 0x3A00

-- the code of a bit-field mnemonic, in bits 15 to 11
abbrev pub bit_code : BitOp → ℕ
bit_code Clr = 0x8000
bit_code Set = 0x8800
bit_code Ext = 0x9000
bit_code Extu = 0x9800
bit_code Mak = 0xA000
bit_code Rot = 0xA800

-- the word of an instruction, a line for each form: immediates, three registers, bit-field literals, flow,
-- traps, control registers, special function units
abbrev pub word_of : Instr → ℕ
word_of (instr.MemImm op d s1 imm) = first_byte (mem_byte op) + at_d (number_of d) + at_s1 (number_of s1) + imm
word_of (instr.Imm op d s1 imm) = first_byte (imm_byte op) + at_d (number_of d) + at_s1 (number_of s1) + imm
word_of (instr.Regs op d s1 s2) =
    first_byte 0xF4 + at_d (number_of d) + at_s1 (number_of s1) + reg_code op + number_of s2
word_of (instr.MemReg op d s1 s2 scaled usr) =
    first_byte 0xF4 + at_d (number_of d) + at_s1 (number_of s1) + mem_byte op * 0x100 + weight_if scaled 0x200
    + weight_if usr 0x100 + number_of s2
word_of (instr.Lda size d s1 s2) =
    first_byte 0xF4 + at_d (number_of d) + at_s1 (number_of s1) + lda_code size + number_of s2
word_of (instr.BitReg op d s1 s2) =
    first_byte 0xF4 + at_d (number_of d) + at_s1 (number_of s1) + bit_code op + number_of s2
word_of (instr.Find ones d s2) =
    first_byte 0xF4 + at_d (number_of d) + (if ones then 0xE800 else 0xEC00) + number_of s2
word_of (instr.Jump link delayed s2) =
    first_byte 0xF4 + 0xC000 + weight_if link 0x800 + weight_if delayed 0x400 + number_of s2
word_of (instr.BoundReg s1 s2) = first_byte 0xF4 + 0xF800 + at_s1 (number_of s1) + number_of s2
word_of instr.Rte = first_byte 0xF4 + 0xFC00
word_of (instr.BitLit op d s1 width offset) =
    first_byte 0xF0 + at_d (number_of d) + at_s1 (number_of s1) + bit_code op + at_width width + offset
word_of (instr.Branch link delayed words) =
    first_byte 0xC0 + weight_if link (2 ^ 27) + weight_if delayed (2 ^ 26) + low26 words
word_of (instr.BranchBit set delayed bit s1 words) =
    first_byte 0xD0 + weight_if set (2 ^ 27) + weight_if delayed (2 ^ 26) + at_d bit + at_s1 (number_of s1)
    + low16 words
word_of (instr.BranchCond delayed mask s1 words) =
    first_byte 0xE8 + weight_if delayed (2 ^ 26) + at_d mask + at_s1 (number_of s1) + low16 words
word_of (instr.TrapBit set bit s1 vector) =
    first_byte 0xF0 + 0xD000 + weight_if set 0x800 + at_d bit + at_s1 (number_of s1) + vector
word_of (instr.TrapCond mask s1 vector) = first_byte 0xF0 + 0xE800 + at_d mask + at_s1 (number_of s1) + vector
word_of (instr.BoundImm s1 imm) = first_byte 0xF8 + at_s1 (number_of s1) + imm
word_of (instr.Ldcr d cr float) = first_byte 0x80 + 0x4000 + weight_if float 0x800 + at_d (number_of d) + at_cr cr
word_of (instr.Stcr s1 cr float) =
    first_byte 0x80 + 0x8000 + weight_if float 0x800 + at_s1 (number_of s1) + at_cr cr + number_of s1
word_of (instr.Xcr d s1 cr float) =
    first_byte 0x80 + 0xC000 + weight_if float 0x800 + at_d (number_of d) + at_s1 (number_of s1) + at_cr cr
    + number_of s1
word_of (instr.Sfu unit rest) = first_byte 0x80 + unit * 2 ^ 26 + rest

-- the instruction is valid and has this word
abbrev pub IsWord : Instr → ℕ → Type 0
IsWord i word = IsValid i × (word_of i ≡ word)

-- two instructions with one word are the same
abbrev pub HasOneReading : ℕ → Type 0
HasOneReading word = (i j : Instr) → IsWord i word → IsWord j word → i ≡ j
