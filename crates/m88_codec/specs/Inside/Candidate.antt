-- The one instruction that can have a word, read off the word's bits: the form by the six opening bits and, in the
-- register, literal and control forms, by the code in the low half. What the table rules out, as a set bit in an unused
-- field, isn't looked at here: such a word differs from the word of its candidate.
use Rattle.std.specs.Prelude.{ℕ, ℤ, pos, negsuc, Bool, ◌==◌, ◌+◌, ◌-◌, ◌/◌, ◌%◌, ◌^◌, nat_lt, nat_le, if◌then◌else◌}
use Rattle.std.specs.Int.{cast_signed, w16}
use Rattle.m88_base.specs.declared.reg.Reg.{Reg}
use Rattle.m88_base.specs.Reg.{number_of, reg_of}
use Rattle.m88_isa.specs.declared.instr.ImmOp.{ImmOp}
use Rattle.m88_isa.specs.declared.instr.MemOp.{MemOp}
use Rattle.m88_isa.specs.declared.instr.MemOp.TheVariants as memop
use Rattle.m88_isa.specs.declared.instr.RegOp.{RegOp}
use Rattle.m88_isa.specs.declared.instr.LdaSize.{LdaSize}
use Rattle.m88_isa.specs.declared.instr.LdaSize.TheVariants.{Double, Word, Half}
use Rattle.m88_isa.specs.declared.instr.BitOp.{BitOp}
use Rattle.m88_isa.specs.declared.instr.BitOp.TheVariants.{Clr, Set, Ext, Extu, Mak, Rot}
use Rattle.m88_isa.specs.declared.instr.Instr.{Instr}
use Rattle.m88_isa.specs.declared.instr.Instr.TheVariants as instr
use Rattle.m88_isa.specs.declared.instr.ImmOp.TheVariants as immop
use Rattle.m88_isa.specs.declared.instr.RegOp.TheVariants as regop

-- the memory mnemonic of six opening bits
unfoldable pub mem_op_at : ℕ → MemOp
mem_op_at code =
    if code == 0 then memop.XmemBu else if code == 1 then memop.Xmem
    else if code == 2 then memop.LdHu else if code == 3 then memop.LdBu
    else if code == 4 then memop.LdD else if code == 5 then memop.Ld
    else if code == 6 then memop.LdH else if code == 7 then memop.LdB
    else if code == 8 then memop.StD else if code == 9 then memop.St
    else if code == 10 then memop.StH else memop.StB

-- the immediate mnemonic of six opening bits
unfoldable pub imm_op_at : ℕ → ImmOp
imm_op_at code =
    if code == 16 then immop.And else if code == 17 then immop.AndU
    else if code == 18 then immop.Mask else if code == 19 then immop.MaskU
    else if code == 20 then immop.Xor else if code == 21 then immop.XorU
    else if code == 22 then immop.Or else if code == 23 then immop.OrU
    else if code == 24 then immop.Addu else if code == 25 then immop.Subu
    else if code == 26 then immop.Divu else if code == 27 then immop.Mul
    else if code == 28 then immop.Add else if code == 29 then immop.Sub
    else if code == 30 then immop.Div else immop.Cmp

-- the mnemonic on three registers of bits 15 to 8
unfoldable pub reg_op_at : ℕ → RegOp
reg_op_at code =
    if code == 0x40 then regop.And else if code == 0x44 then regop.AndC
    else if code == 0x50 then regop.Xor else if code == 0x54 then regop.XorC
    else if code == 0x58 then regop.Or else if code == 0x5C then regop.OrC
    else if code == 0x60 then regop.Addu else if code == 0x61 then regop.AdduCo
    else if code == 0x62 then regop.AdduCi else if code == 0x63 then regop.AdduCio
    else if code == 0x64 then regop.Subu else if code == 0x65 then regop.SubuCo
    else if code == 0x66 then regop.SubuCi else if code == 0x67 then regop.SubuCio
    else if code == 0x68 then regop.Divu else if code == 0x6C then regop.Mul
    else if code == 0x70 then regop.Add else if code == 0x71 then regop.AddCo
    else if code == 0x72 then regop.AddCi else if code == 0x73 then regop.AddCio
    else if code == 0x74 then regop.Sub else if code == 0x75 then regop.SubCo
    else if code == 0x76 then regop.SubCi else if code == 0x77 then regop.SubCio
    else if code == 0x78 then regop.Div else regop.Cmp

-- the scale of a load of an address, of bits 15 to 8
unfoldable pub lda_size_at : ℕ → LdaSize
lda_size_at code = if code == 0x32 then Double else if code == 0x36 then Word else Half

-- the bit-field mnemonic of bits 15 to 11
unfoldable pub bit_op_at : ℕ → BitOp
bit_op_at code =
    if code == 16 then Clr else if code == 17 then Set
    else if code == 18 then Ext else if code == 19 then Extu
    else if code == 20 then Mak else Rot

-- bit 0 of a number
abbrev pub is_odd : ℕ → Bool
is_odd n = n % 2 == 1

-- 16 bits as a signed count of words
abbrev pub words16 : ℕ → ℤ
words16 low = cast_signed w16 low

-- 26 bits as a signed count of words
abbrev pub words26 : ℕ → ℤ
words26 rest = if nat_lt rest (2 ^ 25) then pos rest else negsuc (2 ^ 26 - (rest + 1))

-- a register form by bits 15 to 8
unfoldable pub register_form : Reg → Reg → ℕ → Reg → Instr
register_form d s1 code s2 =
    if nat_lt code 0x30 then instr.MemReg (mem_op_at (code / 4)) d s1 s2 (is_odd (code / 2)) (is_odd code)
    else if nat_lt code 0x40 then instr.Lda (lda_size_at code) d s1 s2
    else if nat_lt code 0x80 then instr.Regs (reg_op_at code) d s1 s2
    else if nat_lt code 0xC0 then instr.BitReg (bit_op_at (code / 8)) d s1 s2
    else if nat_lt code 0xE8 then instr.Jump (nat_le 0xC8 code) (is_odd (code / 4)) s2
    else if nat_lt code 0xF8 then instr.Find (code == 0xE8) d s2
    else if nat_lt code 0xFC then instr.BoundReg s1 s2
    else instr.Rte

-- a bit field with a literal, or a trap, by the low 16 bits; a bit number or a mask stands in the place of D
unfoldable pub literal_form : Reg → Reg → ℕ → Instr
literal_form d s1 low =
    if nat_lt low 0xC000 then instr.BitLit (bit_op_at (low / 2 ^ 11)) d s1 (low / 2 ^ 5 % 32) (low % 32)
    else if nat_lt low 0xE000 then instr.TrapBit (nat_le 0xD800 low) (number_of d) s1 (low % 512)
    else instr.TrapCond (number_of d) s1 (low % 512)

-- a control form by the low 16 bits
unfoldable pub control_form : Reg → Reg → ℕ → Instr
control_form d s1 low =
    if nat_lt low 0x8000 then instr.Ldcr d (low / 2 ^ 5 % 64) (is_odd (low / 2 ^ 11))
    else if nat_lt low 0xC000 then instr.Stcr s1 (low / 2 ^ 5 % 64) (is_odd (low / 2 ^ 11))
    else instr.Xcr d s1 (low / 2 ^ 5 % 64) (is_odd (low / 2 ^ 11))

-- an instruction by the six opening bits, D, S1, the low 16 bits and the low 26 bits
unfoldable pub candidate_at : ℕ → Reg → Reg → ℕ → ℕ → Instr
candidate_at head d s1 low rest =
    if nat_lt head 12 then instr.MemImm (mem_op_at head) d s1 low
    else if nat_lt head 32 then instr.Imm (imm_op_at head) d s1 low
    else if head == 32 then control_form d s1 low
    else if nat_lt head 48 then instr.Sfu (head - 32) rest
    else if nat_lt head 52 then instr.Branch (nat_le 50 head) (is_odd head) (words26 rest)
    else if nat_lt head 56 then instr.BranchBit (nat_le 54 head) (is_odd head) (number_of d) s1 (words16 low)
    else if nat_lt head 60 then instr.BranchCond (is_odd head) (number_of d) s1 (words16 low)
    else if head == 60 then literal_form d s1 low
    else if head == 61 then register_form d s1 (low / 256) (reg_of low)
    else instr.BoundImm s1 low

-- the instruction that a word can have
unfoldable pub candidate_of : ℕ → Instr
candidate_of w = candidate_at (w / 2 ^ 26) (reg_of (w / 2 ^ 21)) (reg_of (w / 2 ^ 16)) (w % 2 ^ 16) (w % 2 ^ 26)
