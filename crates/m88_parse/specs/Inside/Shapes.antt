-- The operand form of each mnemonic ("Instruction Set": the assembler syntax of each instruction).
use Rattle.std.specs.Prelude.{true, false}
use Rattle.m88_isa.specs.declared.mnemonic.Mnemonic.{Mnemonic}
use Rattle.m88_isa.specs.declared.mnemonic.Mnemonic.TheVariants as m
use Rattle.m88_isa.specs.declared.instr.ImmOp.TheVariants as imm
use Rattle.m88_isa.specs.declared.instr.RegOp.TheVariants as reg
use Rattle.m88_isa.specs.declared.instr.MemOp.TheVariants as mem
use Rattle.m88_isa.specs.declared.instr.LdaSize.TheVariants as lda
use Rattle.m88_isa.specs.declared.instr.BitOp.TheVariants as bits
use Rattle.m88_parse.specs.declared.shape.Shape.{Shape}
use Rattle.m88_parse.specs.declared.shape.Shape.TheVariants as shape

-- the form of the operands of a mnemonic, in the order of the word table
unfoldable pub shape_of : Mnemonic → Shape
shape_of m.XmemBu = shape.Memory mem.XmemBu
shape_of m.XmemBuUsr = shape.UserMemory mem.XmemBu
shape_of m.Xmem = shape.Memory mem.Xmem
shape_of m.XmemUsr = shape.UserMemory mem.Xmem
shape_of m.LdHu = shape.Memory mem.LdHu
shape_of m.LdHuUsr = shape.UserMemory mem.LdHu
shape_of m.LdBu = shape.Memory mem.LdBu
shape_of m.LdBuUsr = shape.UserMemory mem.LdBu
shape_of m.LdD = shape.Memory mem.LdD
shape_of m.LdDUsr = shape.UserMemory mem.LdD
shape_of m.Ld = shape.Memory mem.Ld
shape_of m.LdUsr = shape.UserMemory mem.Ld
shape_of m.LdH = shape.Memory mem.LdH
shape_of m.LdHUsr = shape.UserMemory mem.LdH
shape_of m.LdB = shape.Memory mem.LdB
shape_of m.LdBUsr = shape.UserMemory mem.LdB
shape_of m.StD = shape.Memory mem.StD
shape_of m.StDUsr = shape.UserMemory mem.StD
shape_of m.St = shape.Memory mem.St
shape_of m.StUsr = shape.UserMemory mem.St
shape_of m.StH = shape.Memory mem.StH
shape_of m.StHUsr = shape.UserMemory mem.StH
shape_of m.StB = shape.Memory mem.StB
shape_of m.StBUsr = shape.UserMemory mem.StB
shape_of m.LdaD = shape.Address lda.Double
shape_of m.Lda = shape.Address lda.Word
shape_of m.LdaH = shape.Address lda.Half
shape_of m.And = shape.Either imm.And reg.And
shape_of m.AndC = shape.Registers reg.AndC
shape_of m.AndU = shape.Immediate imm.AndU
shape_of m.Mask = shape.Immediate imm.Mask
shape_of m.MaskU = shape.Immediate imm.MaskU
shape_of m.Xor = shape.Either imm.Xor reg.Xor
shape_of m.XorC = shape.Registers reg.XorC
shape_of m.XorU = shape.Immediate imm.XorU
shape_of m.Or = shape.Either imm.Or reg.Or
shape_of m.OrC = shape.Registers reg.OrC
shape_of m.OrU = shape.Immediate imm.OrU
shape_of m.Addu = shape.Either imm.Addu reg.Addu
shape_of m.AdduCo = shape.Registers reg.AdduCo
shape_of m.AdduCi = shape.Registers reg.AdduCi
shape_of m.AdduCio = shape.Registers reg.AdduCio
shape_of m.Subu = shape.Either imm.Subu reg.Subu
shape_of m.SubuCo = shape.Registers reg.SubuCo
shape_of m.SubuCi = shape.Registers reg.SubuCi
shape_of m.SubuCio = shape.Registers reg.SubuCio
shape_of m.Divu = shape.Either imm.Divu reg.Divu
shape_of m.Mul = shape.Either imm.Mul reg.Mul
shape_of m.Add = shape.Either imm.Add reg.Add
shape_of m.AddCo = shape.Registers reg.AddCo
shape_of m.AddCi = shape.Registers reg.AddCi
shape_of m.AddCio = shape.Registers reg.AddCio
shape_of m.Sub = shape.Either imm.Sub reg.Sub
shape_of m.SubCo = shape.Registers reg.SubCo
shape_of m.SubCi = shape.Registers reg.SubCi
shape_of m.SubCio = shape.Registers reg.SubCio
shape_of m.Div = shape.Either imm.Div reg.Div
shape_of m.Cmp = shape.Either imm.Cmp reg.Cmp
shape_of m.Clr = shape.Bits bits.Clr
shape_of m.Set = shape.Bits bits.Set
shape_of m.Ext = shape.Bits bits.Ext
shape_of m.Extu = shape.Bits bits.Extu
shape_of m.Mak = shape.Bits bits.Mak
shape_of m.Rot = shape.Bits bits.Rot
shape_of m.Ff1 = shape.Find true
shape_of m.Ff0 = shape.Find false
shape_of m.Br = shape.Branch false false
shape_of m.BrN = shape.Branch false true
shape_of m.Bsr = shape.Branch true false
shape_of m.BsrN = shape.Branch true true
shape_of m.Bb0 = shape.BranchBit false false
shape_of m.Bb0N = shape.BranchBit false true
shape_of m.Bb1 = shape.BranchBit true false
shape_of m.Bb1N = shape.BranchBit true true
shape_of m.Bcnd = shape.BranchCond false
shape_of m.BcndN = shape.BranchCond true
shape_of m.Jmp = shape.Jump false false
shape_of m.JmpN = shape.Jump false true
shape_of m.Jsr = shape.Jump true false
shape_of m.JsrN = shape.Jump true true
shape_of m.Tb0 = shape.TrapBit false
shape_of m.Tb1 = shape.TrapBit true
shape_of m.Tcnd = shape.TrapCond
shape_of m.Tbnd = shape.Bounds
shape_of m.Rte = shape.Return
shape_of m.Ldcr = shape.Ldcr false
shape_of m.Stcr = shape.Stcr false
shape_of m.Xcr = shape.Xcr false
shape_of m.Fldcr = shape.Ldcr true
shape_of m.Fstcr = shape.Stcr true
shape_of m.Fxcr = shape.Xcr true
