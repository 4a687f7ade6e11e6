-- The words of the word table are words of 32 bits.
use Rattle.std.specs.Prelude.{ℕ, ℤ, pos, negsuc, Bool, true, false, ◌<◌, ◌≤◌, ◌^◌}
use Rattle.std.proofs.Common.{arith}
use Rattle.m88_isa.specs.Compute.{weight_if}
use Rattle.m88_isa.specs.Instr.{FitsWords, IsValid, IsWidth}
use Rattle.m88_isa.specs.Word.{bit_code, imm_byte, lda_code, low16, low26, mem_byte, reg_code, word_of}
use Rattle.m88_isa.specs.declared.instr.BitOp.{BitOp}
use Rattle.m88_isa.specs.declared.instr.ImmOp.{ImmOp}
use Rattle.m88_isa.specs.declared.instr.Instr.{Instr}
use Rattle.m88_isa.specs.declared.instr.Instr.TheVariants as instr
use Rattle.m88_isa.specs.declared.instr.LdaSize.{LdaSize}
use Rattle.m88_isa.specs.declared.instr.MemOp.{MemOp}
use Rattle.m88_isa.specs.declared.instr.RegOp.{RegOp}

-- the codes of the mnemonics end below their fields
pub mem_most : (op : MemOp) → mem_byte op ≤ 0x2C
mem_most op = grind arith

pub imm_most : (op : ImmOp) → imm_byte op ≤ 0x7C
imm_most op = grind arith

pub reg_most : (op : RegOp) → reg_code op ≤ 0x7C00
reg_most op = grind arith

pub lda_most : (size : LdaSize) → lda_code size ≤ 0x3A00
lda_most size = grind arith

pub bit_most : (op : BitOp) → bit_code op ≤ 0xA800
bit_most op = grind arith

-- a mark adds at most its weight, and a count of words fills its field
mark_most : (there : Bool) (weight : ℕ) → weight_if there weight ≤ weight
mark_most true weight = omega arith
mark_most false weight = omega arith

pub low16_below : (words : ℤ) → FitsWords 15 words → low16 words < 2 ^ 16
low16_below (pos n) fits = omega arith
low16_below (negsuc n) fits = omega arith

low26_below : (words : ℤ) → low26 words < 2 ^ 26
low26_below words = omega arith

pub width_below : (op : BitOp) (width : ℕ) → IsWidth op width → width < 32
width_below op width valid = grind (arith, valid)

-- a line for each form
pub word_small : (i : Instr) → IsValid i → word_of i < 2 ^ 32
word_small (instr.Imm op d s1 imm) valid = omega (arith, d.in_range, s1.in_range, imm_most op, valid)
word_small (instr.Regs op d s1 s2) valid = omega (arith, d.in_range, s1.in_range, s2.in_range, reg_most op)
word_small (instr.MemImm op d s1 imm) valid = omega (arith, d.in_range, s1.in_range, mem_most op, valid)
word_small (instr.MemReg op d s1 s2 scaled usr) valid =
    omega (arith, d.in_range, s1.in_range, s2.in_range, mem_most op, mark_most scaled 0x200, mark_most usr 0x100)
word_small (instr.Lda size d s1 s2) valid = omega (arith, d.in_range, s1.in_range, s2.in_range, lda_most size)
word_small (instr.BitLit op d s1 width offset) valid =
    omega (arith, d.in_range, s1.in_range, bit_most op, width_below op width valid.0, valid.1)
word_small (instr.BitReg op d s1 s2) valid = omega (arith, d.in_range, s1.in_range, s2.in_range, bit_most op)
word_small (instr.Find true d s2) valid = omega (arith, d.in_range, s2.in_range)
word_small (instr.Find false d s2) valid = omega (arith, d.in_range, s2.in_range)
word_small (instr.Branch link delayed words) valid =
    omega (arith, mark_most link (2 ^ 27), mark_most delayed (2 ^ 26), low26_below words)
word_small (instr.BranchBit set delayed bit s1 words) valid =
    omega (arith, mark_most set (2 ^ 27), mark_most delayed (2 ^ 26), s1.in_range, low16_below words valid.1, valid.0)
word_small (instr.BranchCond delayed mask s1 words) valid =
    omega (arith, mark_most delayed (2 ^ 26), s1.in_range, low16_below words valid.1, valid.0)
word_small (instr.Jump link delayed s2) valid =
    omega (arith, mark_most link 0x800, mark_most delayed 0x400, s2.in_range)
word_small (instr.TrapBit set bit s1 vector) valid =
    omega (arith, mark_most set 0x800, s1.in_range, valid.0, valid.1)
word_small (instr.TrapCond mask s1 vector) valid = omega (arith, s1.in_range, valid.0, valid.1)
word_small (instr.BoundImm s1 imm) valid = omega (arith, s1.in_range, valid)
word_small (instr.BoundReg s1 s2) valid = omega (arith, s1.in_range, s2.in_range)
word_small instr.Rte valid = omega arith
word_small (instr.Ldcr d cr float) valid = omega (arith, mark_most float 0x800, d.in_range, valid)
word_small (instr.Stcr s1 cr float) valid = omega (arith, mark_most float 0x800, s1.in_range, valid)
word_small (instr.Xcr d s1 cr float) valid = omega (arith, mark_most float 0x800, d.in_range, s1.in_range, valid)
word_small (instr.Sfu unit rest) valid = omega (arith, valid.1, valid.2)
