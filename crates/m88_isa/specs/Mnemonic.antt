-- How the code's mnemonics are spelled: each is the name of an operation. A name that an immediate and registers share
-- is told as that of the immediate.
use Rattle.std.specs.Prelude.{ℕ, true, false, List}
use Rattle.m88_isa.specs.declared.instr.ImmOp.TheVariants as imm
use Rattle.m88_isa.specs.declared.instr.RegOp.TheVariants as reg
use Rattle.m88_isa.specs.declared.instr.MemOp.TheVariants as mem
use Rattle.m88_isa.specs.declared.instr.LdaSize.TheVariants as lda
use Rattle.m88_isa.specs.declared.instr.BitOp.TheVariants as bits
use Rattle.m88_isa.specs.declared.mnemonic.Mnemonic.{Mnemonic}
use Rattle.m88_isa.specs.declared.mnemonic.Mnemonic.TheVariants as mnemonic
use Rattle.m88_isa.specs.Names.{imm_name, reg_name, mem_name, index_name, lda_name, bits_name, find_name}
use Rattle.m88_isa.specs.Names.{branch_name, branch_bit_name, branch_cond_name, jump_name}
use Rattle.m88_isa.specs.Names.{trap_bit_name, trap_cond_name, bound_name, return_name, ldcr_name, stcr_name, xcr_name}

-- how a mnemonic is spelled
unfoldable pub text_of : Mnemonic → List ℕ
text_of mnemonic.XmemBu = mem_name mem.XmemBu
text_of mnemonic.XmemBuUsr = index_name mem.XmemBu true
text_of mnemonic.Xmem = mem_name mem.Xmem
text_of mnemonic.XmemUsr = index_name mem.Xmem true
text_of mnemonic.LdHu = mem_name mem.LdHu
text_of mnemonic.LdHuUsr = index_name mem.LdHu true
text_of mnemonic.LdBu = mem_name mem.LdBu
text_of mnemonic.LdBuUsr = index_name mem.LdBu true
text_of mnemonic.LdD = mem_name mem.LdD
text_of mnemonic.LdDUsr = index_name mem.LdD true
text_of mnemonic.Ld = mem_name mem.Ld
text_of mnemonic.LdUsr = index_name mem.Ld true
text_of mnemonic.LdH = mem_name mem.LdH
text_of mnemonic.LdHUsr = index_name mem.LdH true
text_of mnemonic.LdB = mem_name mem.LdB
text_of mnemonic.LdBUsr = index_name mem.LdB true
text_of mnemonic.StD = mem_name mem.StD
text_of mnemonic.StDUsr = index_name mem.StD true
text_of mnemonic.St = mem_name mem.St
text_of mnemonic.StUsr = index_name mem.St true
text_of mnemonic.StH = mem_name mem.StH
text_of mnemonic.StHUsr = index_name mem.StH true
text_of mnemonic.StB = mem_name mem.StB
text_of mnemonic.StBUsr = index_name mem.StB true
text_of mnemonic.LdaD = lda_name lda.Double
text_of mnemonic.Lda = lda_name lda.Word
text_of mnemonic.LdaH = lda_name lda.Half
text_of mnemonic.And = imm_name imm.And
text_of mnemonic.AndC = reg_name reg.AndC
text_of mnemonic.AndU = imm_name imm.AndU
text_of mnemonic.Mask = imm_name imm.Mask
text_of mnemonic.MaskU = imm_name imm.MaskU
text_of mnemonic.Xor = imm_name imm.Xor
text_of mnemonic.XorC = reg_name reg.XorC
text_of mnemonic.XorU = imm_name imm.XorU
text_of mnemonic.Or = imm_name imm.Or
text_of mnemonic.OrC = reg_name reg.OrC
text_of mnemonic.OrU = imm_name imm.OrU
text_of mnemonic.Addu = imm_name imm.Addu
text_of mnemonic.AdduCo = reg_name reg.AdduCo
text_of mnemonic.AdduCi = reg_name reg.AdduCi
text_of mnemonic.AdduCio = reg_name reg.AdduCio
text_of mnemonic.Subu = imm_name imm.Subu
text_of mnemonic.SubuCo = reg_name reg.SubuCo
text_of mnemonic.SubuCi = reg_name reg.SubuCi
text_of mnemonic.SubuCio = reg_name reg.SubuCio
text_of mnemonic.Divu = imm_name imm.Divu
text_of mnemonic.Mul = imm_name imm.Mul
text_of mnemonic.Add = imm_name imm.Add
text_of mnemonic.AddCo = reg_name reg.AddCo
text_of mnemonic.AddCi = reg_name reg.AddCi
text_of mnemonic.AddCio = reg_name reg.AddCio
text_of mnemonic.Sub = imm_name imm.Sub
text_of mnemonic.SubCo = reg_name reg.SubCo
text_of mnemonic.SubCi = reg_name reg.SubCi
text_of mnemonic.SubCio = reg_name reg.SubCio
text_of mnemonic.Div = imm_name imm.Div
text_of mnemonic.Cmp = imm_name imm.Cmp
text_of mnemonic.Clr = bits_name bits.Clr
text_of mnemonic.Set = bits_name bits.Set
text_of mnemonic.Ext = bits_name bits.Ext
text_of mnemonic.Extu = bits_name bits.Extu
text_of mnemonic.Mak = bits_name bits.Mak
text_of mnemonic.Rot = bits_name bits.Rot
text_of mnemonic.Ff1 = find_name true
text_of mnemonic.Ff0 = find_name false
text_of mnemonic.Br = branch_name false false
text_of mnemonic.BrN = branch_name false true
text_of mnemonic.Bsr = branch_name true false
text_of mnemonic.BsrN = branch_name true true
text_of mnemonic.Bb0 = branch_bit_name false false
text_of mnemonic.Bb0N = branch_bit_name false true
text_of mnemonic.Bb1 = branch_bit_name true false
text_of mnemonic.Bb1N = branch_bit_name true true
text_of mnemonic.Bcnd = branch_cond_name false
text_of mnemonic.BcndN = branch_cond_name true
text_of mnemonic.Jmp = jump_name false false
text_of mnemonic.JmpN = jump_name false true
text_of mnemonic.Jsr = jump_name true false
text_of mnemonic.JsrN = jump_name true true
text_of mnemonic.Tb0 = trap_bit_name false
text_of mnemonic.Tb1 = trap_bit_name true
text_of mnemonic.Tcnd = trap_cond_name
text_of mnemonic.Tbnd = bound_name
text_of mnemonic.Rte = return_name
text_of mnemonic.Ldcr = ldcr_name false
text_of mnemonic.Stcr = stcr_name false
text_of mnemonic.Xcr = xcr_name false
text_of mnemonic.Fldcr = ldcr_name true
text_of mnemonic.Fstcr = stcr_name true
text_of mnemonic.Fxcr = xcr_name true
