-- No name of an operation has more than eleven letters and dots.
use Rattle.std.proofs.Common.{◌≤◌, length, lit≤}
use Rattle.m88_isa.specs.Mnemonic.{text_of}
use Rattle.m88_isa.specs.declared.instr.ImmOp.{ImmOp}
use Rattle.m88_isa.specs.declared.instr.ImmOp.TheVariants as imm
use Rattle.m88_isa.specs.declared.instr.RegOp.{RegOp}
use Rattle.m88_isa.specs.declared.instr.RegOp.TheVariants as reg
use Rattle.m88_isa.specs.declared.instr.MemOp.{MemOp}
use Rattle.m88_isa.specs.declared.instr.MemOp.TheVariants as mem
use Rattle.m88_isa.specs.declared.mnemonic.Mnemonic.{Mnemonic}
use Rattle.m88_isa.specs.declared.mnemonic.Mnemonic.TheVariants as m
use Rattle.m88_isa.specs.Names.{imm_name, reg_name, mem_name}

pub name_short : (mnemonic : Mnemonic) → length (text_of mnemonic) ≤ 11
unfolding text_of
name_short m.XmemBu = lit≤ tt
name_short _ = lit≤ tt

pub imm_short : (op : ImmOp) → length (imm_name op) ≤ 11
imm_short imm.And = lit≤ tt
imm_short _ = lit≤ tt

pub reg_short : (op : RegOp) → length (reg_name op) ≤ 11
reg_short reg.And = lit≤ tt
reg_short _ = lit≤ tt

pub mem_short : (op : MemOp) → length (mem_name op) ≤ 11
mem_short mem.XmemBu = lit≤ tt
mem_short _ = lit≤ tt
