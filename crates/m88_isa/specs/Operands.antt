-- Which registers an instruction reads and writes, and how the instruction unit treats it ("Instruction Set": the
-- operands of each mnemonic). r0 stands for no register.
use Rattle.std.specs.Prelude.{ℕ, Bool, true, false, ◌+◌, ◌^◌, ◌==◌, bit_or, if◌then◌else◌}
use Rattle.m88_base.specs.declared.reg.Reg.{Reg}
use Rattle.m88_base.specs.Reg.{number_of, reg_of}
use Rattle.m88_isa.specs.declared.instr.MemOp.{MemOp}
use Rattle.m88_isa.specs.declared.instr.MemOp.TheVariants as memop
use Rattle.m88_isa.specs.declared.instr.Instr.{Instr}
use Rattle.m88_isa.specs.declared.instr.Instr.TheVariants as instr

-- r0, which no instruction counts as read or written
abbrev pub no_register : Reg
no_register = reg_of 0

-- r1, which `bsr` and `jsr` write
abbrev pub link_register : Reg
link_register = reg_of 1

-- the register after d, which holds the second half of a double word; after r31 it is r0
abbrev pub register_after : Reg → Reg
register_after d = reg_of (number_of d + 1)

-- a mnemonic that reads D: a store or an exchange
abbrev pub reads_d : MemOp → Bool
reads_d memop.XmemBu = true
reads_d memop.Xmem = true
reads_d memop.StD = true
reads_d memop.St = true
reads_d memop.StH = true
reads_d memop.StB = true
reads_d _ = false

-- a mnemonic that writes D: a load or an exchange
abbrev pub writes_d : MemOp → Bool
writes_d memop.StD = false
writes_d memop.St = false
writes_d memop.StH = false
writes_d memop.StB = false
writes_d _ = true

-- the register where a condition holds
abbrev pub register_if : Bool → Reg → Reg
register_if there d = if there then d else no_register

-- a store of a double word
abbrev pub stores_double : MemOp → Bool
stores_double memop.StD = true
stores_double _ = false

-- a load of a double word
abbrev pub loads_double : MemOp → Bool
loads_double memop.LdD = true
loads_double _ = false

-- the register that is read in the place of S1
abbrev pub s1_of : Instr → Reg
s1_of (instr.Imm op d s1 imm) = s1
s1_of (instr.Regs op d s1 s2) = s1
s1_of (instr.MemImm op d s1 imm) = s1
s1_of (instr.MemReg op d s1 s2 scaled usr) = s1
s1_of (instr.Lda size d s1 s2) = s1
s1_of (instr.BitLit op d s1 width offset) = s1
s1_of (instr.BitReg op d s1 s2) = s1
s1_of (instr.BranchBit set delayed bit s1 words) = s1
s1_of (instr.BranchCond delayed mask s1 words) = s1
s1_of (instr.TrapBit set bit s1 vector) = s1
s1_of (instr.TrapCond mask s1 vector) = s1
s1_of (instr.BoundImm s1 imm) = s1
s1_of (instr.BoundReg s1 s2) = s1
s1_of (instr.Stcr s1 cr float) = s1
s1_of (instr.Xcr d s1 cr float) = s1
s1_of _ = no_register

-- the register that is read in the place of S2
abbrev pub s2_of : Instr → Reg
s2_of (instr.Regs op d s1 s2) = s2
s2_of (instr.MemReg op d s1 s2 scaled usr) = s2
s2_of (instr.Lda size d s1 s2) = s2
s2_of (instr.BitReg op d s1 s2) = s2
s2_of (instr.Find ones d s2) = s2
s2_of (instr.Jump link delayed s2) = s2
s2_of (instr.BoundReg s1 s2) = s2
s2_of _ = no_register

-- the register that is read in the place of D: the datum of a store or an exchange
abbrev pub d_of : Instr → Reg
d_of (instr.MemImm op d s1 imm) = register_if (reads_d op) d
d_of (instr.MemReg op d s1 s2 scaled usr) = register_if (reads_d op) d
d_of _ = no_register

-- the register after D that is read: the second half of a double word that is stored
abbrev pub after_d_of : Instr → Reg
after_d_of (instr.MemImm op d s1 imm) = register_if (stores_double op) (register_after d)
after_d_of (instr.MemReg op d s1 s2 scaled usr) = register_if (stores_double op) (register_after d)
after_d_of _ = no_register

-- the register that is written: D where it isn't only read, and r1 where the flow is linked
abbrev pub written_by : Instr → Reg
written_by (instr.Imm op d s1 imm) = d
written_by (instr.Regs op d s1 s2) = d
written_by (instr.MemImm op d s1 imm) = register_if (writes_d op) d
written_by (instr.MemReg op d s1 s2 scaled usr) = register_if (writes_d op) d
written_by (instr.Lda size d s1 s2) = d
written_by (instr.BitLit op d s1 width offset) = d
written_by (instr.BitReg op d s1 s2) = d
written_by (instr.Find ones d s2) = d
written_by (instr.Branch link delayed words) = register_if link link_register
written_by (instr.Jump link delayed s2) = register_if link link_register
written_by (instr.Ldcr d cr float) = d
written_by (instr.Xcr d s1 cr float) = d
written_by _ = no_register

-- the register after D that is written: the second half of a double word that is loaded
abbrev pub second_written_by : Instr → Reg
second_written_by (instr.MemImm op d s1 imm) = register_if (loads_double op) (register_after d)
second_written_by (instr.MemReg op d s1 s2 scaled usr) = register_if (loads_double op) (register_after d)
second_written_by _ = no_register

-- the set of one register as a bit of its number; r0 is in no set
abbrev pub bit_of : Reg → ℕ
bit_of r = if number_of r == 0 then 0 else 2 ^ number_of r

-- the set of two registers
abbrev pub pair_of : Reg → Reg → ℕ
pair_of a b = bit_or (bit_of a) (bit_of b)

-- the registers that an instruction uses, each as a bit of its number
unfoldable pub uses_of : Instr → ℕ
uses_of i = bit_or (pair_of (s1_of i) (s2_of i)) (pair_of (d_of i) (after_d_of i))

-- the registers that it writes, at once or by a load, each as a bit of its number
unfoldable pub writes_of : Instr → ℕ
writes_of i = pair_of (written_by i) (second_written_by i)

-- the accesses that a memory mnemonic makes: two for a double word and for an exchange
abbrev pub accesses_of : MemOp → ℕ
accesses_of memop.XmemBu = 2
accesses_of memop.Xmem = 2
accesses_of memop.LdD = 2
accesses_of memop.StD = 2
accesses_of _ = 1

-- the accesses that an instruction makes unless it raises; the forms for the user's address space only raise
abbrev pub access_count_of : Instr → ℕ
access_count_of (instr.MemImm op d s1 imm) = accesses_of op
access_count_of (instr.MemReg op d s1 s2 scaled usr) = if usr then 0 else accesses_of op
access_count_of _ = 0

-- a branch, a jump, a conditional trap or the return from an exception: it may not stand in a taken delay slot
abbrev pub is_flow : Instr → Bool
is_flow (instr.Branch link delayed words) = true
is_flow (instr.BranchBit set delayed bit s1 words) = true
is_flow (instr.BranchCond delayed mask s1 words) = true
is_flow (instr.Jump link delayed s2) = true
is_flow (instr.TrapBit set bit s1 vector) = true
is_flow (instr.TrapCond mask s1 vector) = true
is_flow instr.Rte = true
is_flow _ = false

-- a conditional trap, which waits until the data unit is empty
abbrev pub waits_for_empty : Instr → Bool
waits_for_empty (instr.TrapBit set bit s1 vector) = true
waits_for_empty (instr.TrapCond mask s1 vector) = true
waits_for_empty _ = false
