-- The name of each operation in the assembly language, in the order of the word table ("Instruction Set": the assembler
-- syntax of each instruction). One name can stand for several forms, as `or` does for an immediate and for registers.
use Rattle.std.specs.Prelude.{ℕ, Bool, true, false, List, ◌++◌, codes, if◌then◌else◌}
use Rattle.m88_isa.specs.declared.instr.ImmOp.{ImmOp}
use Rattle.m88_isa.specs.declared.instr.ImmOp.TheVariants as imm
use Rattle.m88_isa.specs.declared.instr.RegOp.{RegOp}
use Rattle.m88_isa.specs.declared.instr.RegOp.TheVariants as reg
use Rattle.m88_isa.specs.declared.instr.MemOp.{MemOp}
use Rattle.m88_isa.specs.declared.instr.MemOp.TheVariants as mem
use Rattle.m88_isa.specs.declared.instr.LdaSize.{LdaSize}
use Rattle.m88_isa.specs.declared.instr.LdaSize.TheVariants as lda
use Rattle.m88_isa.specs.declared.instr.BitOp.{BitOp}
use Rattle.m88_isa.specs.declared.instr.BitOp.TheVariants as bits
use Rattle.m88_isa.specs.declared.instr.Instr.{Instr}
use Rattle.m88_isa.specs.declared.instr.Instr.TheVariants as instr

-- with an immediate
abbrev pub imm_name : ImmOp → List ℕ
imm_name imm.And = codes "and"
imm_name imm.AndU = codes "and.u"
imm_name imm.Mask = codes "mask"
imm_name imm.MaskU = codes "mask.u"
imm_name imm.Xor = codes "xor"
imm_name imm.XorU = codes "xor.u"
imm_name imm.Or = codes "or"
imm_name imm.OrU = codes "or.u"
imm_name imm.Addu = codes "addu"
imm_name imm.Subu = codes "subu"
imm_name imm.Divu = codes "divu"
imm_name imm.Mul = codes "mul"
imm_name imm.Add = codes "add"
imm_name imm.Sub = codes "sub"
imm_name imm.Div = codes "div"
imm_name imm.Cmp = codes "cmp"

-- on three registers
abbrev pub reg_name : RegOp → List ℕ
reg_name reg.And = codes "and"
reg_name reg.AndC = codes "and.c"
reg_name reg.Xor = codes "xor"
reg_name reg.XorC = codes "xor.c"
reg_name reg.Or = codes "or"
reg_name reg.OrC = codes "or.c"
reg_name reg.Addu = codes "addu"
reg_name reg.Subu = codes "subu"
reg_name reg.Divu = codes "divu"
reg_name reg.Mul = codes "mul"
reg_name reg.Add = codes "add"
reg_name reg.Sub = codes "sub"
reg_name reg.Div = codes "div"
reg_name reg.Cmp = codes "cmp"
reg_name reg.AdduCo = codes "addu.co"
reg_name reg.AdduCi = codes "addu.ci"
reg_name reg.AdduCio = codes "addu.cio"
reg_name reg.SubuCo = codes "subu.co"
reg_name reg.SubuCi = codes "subu.ci"
reg_name reg.SubuCio = codes "subu.cio"
reg_name reg.AddCo = codes "add.co"
reg_name reg.AddCi = codes "add.ci"
reg_name reg.AddCio = codes "add.cio"
reg_name reg.SubCo = codes "sub.co"
reg_name reg.SubCi = codes "sub.ci"
reg_name reg.SubCio = codes "sub.cio"

-- on memory
abbrev pub mem_name : MemOp → List ℕ
mem_name mem.XmemBu = codes "xmem.bu"
mem_name mem.Xmem = codes "xmem"
mem_name mem.LdHu = codes "ld.hu"
mem_name mem.LdBu = codes "ld.bu"
mem_name mem.LdD = codes "ld.d"
mem_name mem.Ld = codes "ld"
mem_name mem.LdH = codes "ld.h"
mem_name mem.LdB = codes "ld.b"
mem_name mem.StD = codes "st.d"
mem_name mem.St = codes "st"
mem_name mem.StH = codes "st.h"
mem_name mem.StB = codes "st.b"

-- on memory at a register's index: .usr is in the user's address space
abbrev pub index_name : MemOp → Bool → List ℕ
index_name op true = mem_name op ++ codes ".usr"
index_name op false = mem_name op

-- loads of an address
abbrev pub lda_name : LdaSize → List ℕ
lda_name lda.Double = codes "lda.d"
lda_name lda.Word = codes "lda"
lda_name lda.Half = codes "lda.h"

-- on a bit field
abbrev pub bits_name : BitOp → List ℕ
bits_name bits.Clr = codes "clr"
bits_name bits.Set = codes "set"
bits_name bits.Ext = codes "ext"
bits_name bits.Extu = codes "extu"
bits_name bits.Mak = codes "mak"
bits_name bits.Rot = codes "rot"

-- the search for the highest 1, or else 0
abbrev pub find_name : Bool → List ℕ
find_name ones = if ones then codes "ff1" else codes "ff0"

-- .n has a delay slot
abbrev pub slotted : List ℕ → Bool → List ℕ
slotted name true = name ++ codes ".n"
slotted name false = name

-- branches: with a link or not
abbrev pub branch_name : Bool → Bool → List ℕ
branch_name link delayed = slotted (if link then codes "bsr" else codes "br") delayed

-- branches on a bit: that is set or not
abbrev pub branch_bit_name : Bool → Bool → List ℕ
branch_bit_name set delayed = slotted (if set then codes "bb1" else codes "bb0") delayed

-- branches on a condition
abbrev pub branch_cond_name : Bool → List ℕ
branch_cond_name delayed = slotted (codes "bcnd") delayed

-- jumps: with a link or not
abbrev pub jump_name : Bool → Bool → List ℕ
jump_name link delayed = slotted (if link then codes "jsr" else codes "jmp") delayed

-- traps on a bit: that is set or not
abbrev pub trap_bit_name : Bool → List ℕ
trap_bit_name set = if set then codes "tb1" else codes "tb0"

-- traps on a condition
abbrev pub trap_cond_name : List ℕ
trap_cond_name = codes "tcnd"

-- traps on a number beyond a bound
abbrev pub bound_name : List ℕ
bound_name = codes "tbnd"

-- the return from an exception
abbrev pub return_name : List ℕ
return_name = codes "rte"

-- f is for the control registers of the floating-point unit: the read
abbrev pub ldcr_name : Bool → List ℕ
ldcr_name float = if float then codes "fldcr" else codes "ldcr"

-- the write
abbrev pub stcr_name : Bool → List ℕ
stcr_name float = if float then codes "fstcr" else codes "stcr"

-- the exchange
abbrev pub xcr_name : Bool → List ℕ
xcr_name float = if float then codes "fxcr" else codes "xcr"

-- the name in the place of an instruction's operation; a word of a special function unit is written by a directive
abbrev pub operation_name : Instr → List ℕ
operation_name (instr.Imm op d s1 n) = imm_name op
operation_name (instr.Regs op d s1 s2) = reg_name op
operation_name (instr.MemImm op d s1 n) = mem_name op
operation_name (instr.MemReg op d s1 s2 scaled usr) = index_name op usr
operation_name (instr.Lda size d s1 s2) = lda_name size
operation_name (instr.BitLit op d s1 width offset) = bits_name op
operation_name (instr.BitReg op d s1 s2) = bits_name op
operation_name (instr.Find ones d s2) = find_name ones
operation_name (instr.Branch link delayed words) = branch_name link delayed
operation_name (instr.BranchBit set delayed bit s1 words) = branch_bit_name set delayed
operation_name (instr.BranchCond delayed mask s1 words) = branch_cond_name delayed
operation_name (instr.Jump link delayed s2) = jump_name link delayed
operation_name (instr.TrapBit set bit s1 vector) = trap_bit_name set
operation_name (instr.TrapCond mask s1 vector) = trap_cond_name
operation_name (instr.BoundImm s1 n) = bound_name
operation_name (instr.BoundReg s1 s2) = bound_name
operation_name instr.Rte = return_name
operation_name (instr.Ldcr d cr float) = ldcr_name float
operation_name (instr.Stcr s1 cr float) = stcr_name float
operation_name (instr.Xcr d s1 cr float) = xcr_name float
operation_name (instr.Sfu unit rest) = codes ".word"
