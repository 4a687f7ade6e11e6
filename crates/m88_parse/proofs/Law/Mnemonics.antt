-- The law of names of operations: the mnemonic that is found by the name of an operation has the form of its operands, and
-- each mnemonic is spelled as the operations of its form are named.
use Rattle.std.proofs.Common.{◌≡◌, ℕ, Bool, true, false, ◌⊎◌, inl, inr, List, Option, Some, None, refl, ap}
use Rattle.m88_isa.specs.Mnemonic.{text_of}
use Rattle.m88_isa.specs.Letters.{begun_with, mnemonic_of}
use Rattle.m88_isa.specs.declared.mnemonic.Mnemonic.{Mnemonic}
use Rattle.m88_isa.specs.declared.mnemonic.Mnemonic.TheVariants as mnemonic
use Rattle.m88_isa.specs.declared.instr.ImmOp.{ImmOp}
use Rattle.m88_isa.specs.declared.instr.ImmOp.TheVariants as imm
use Rattle.m88_isa.specs.declared.instr.RegOp.{RegOp}
use Rattle.m88_isa.specs.declared.instr.RegOp.TheVariants as reg
use Rattle.m88_isa.specs.declared.instr.MemOp.{MemOp}
use Rattle.m88_isa.specs.declared.instr.MemOp.TheVariants as mem
use Rattle.m88_isa.specs.declared.instr.LdaSize.{LdaSize}
use Rattle.m88_isa.specs.declared.instr.LdaSize.TheVariants as lda
use Rattle.m88_isa.specs.declared.instr.BitOp.{BitOp}
use Rattle.m88_isa.specs.declared.instr.BitOp.TheVariants as bits
use Rattle.m88_parse.specs.declared.shape.Shape.{Shape}
use Rattle.m88_parse.specs.declared.shape.Shape.TheVariants as shape
use Rattle.m88_isa.specs.Names.{imm_name, reg_name, mem_name, index_name, lda_name, bits_name, find_name, branch_name, branch_bit_name, branch_cond_name, jump_name, trap_bit_name, trap_cond_name, bound_name, return_name, ldcr_name, stcr_name, xcr_name}
use Rattle.m88_parse.specs.Inside.Shapes.{shape_of}

-- a name that each operation of a form has
abbrev pub IsNameOf : Shape → List ℕ → Type 0
IsNameOf (shape.Either i r) name = ◌≡◌ {A = List ℕ × List ℕ} (name, name) (imm_name i, reg_name r)
IsNameOf (shape.Immediate i) name = name ≡ imm_name i
IsNameOf (shape.Registers r) name = name ≡ reg_name r
IsNameOf (shape.Memory op) name = name ≡ mem_name op
IsNameOf (shape.UserMemory op) name = name ≡ index_name op true
IsNameOf (shape.Address size) name = name ≡ lda_name size
IsNameOf (shape.Bits op) name = name ≡ bits_name op
IsNameOf (shape.Find ones) name = name ≡ find_name ones
IsNameOf (shape.Branch link delayed) name = name ≡ branch_name link delayed
IsNameOf (shape.BranchBit on delayed) name = name ≡ branch_bit_name on delayed
IsNameOf (shape.BranchCond delayed) name = name ≡ branch_cond_name delayed
IsNameOf (shape.Jump link delayed) name = name ≡ jump_name link delayed
IsNameOf (shape.TrapBit on) name = name ≡ trap_bit_name on
IsNameOf shape.TrapCond name = name ≡ trap_cond_name
IsNameOf shape.Bounds name = name ≡ bound_name
IsNameOf shape.Return name = name ≡ return_name
IsNameOf (shape.Ldcr float) name = name ≡ ldcr_name float
IsNameOf (shape.Stcr float) name = name ≡ stcr_name float
IsNameOf (shape.Xcr float) name = name ≡ xcr_name float

pub name_of_shape : (m : Mnemonic) → IsNameOf (shape_of m) (text_of m)
unfolding text_of shape_of
name_of_shape mnemonic.XmemBu = refl
name_of_shape _ = refl

-- a mnemonic that is spelled so has this form
pub record Spelled (name : List ℕ) (form : Shape) : Type 0 where
  pub mnemonic : Mnemonic
  pub text : text_of mnemonic ≡ name
  pub shape : shape_of mnemonic ≡ form

-- the same of the one that is found, by a test that is computed
abbrev Found : Option Mnemonic → List ℕ → Shape → Type 0
Found None name form = ⊥
Found (Some m) name form = ◌≡◌ {A = List ℕ × Shape} (text_of m, shape_of m) (name, form)

spelled_by : (name : List ℕ) (form : Shape) (m : Option Mnemonic) → Found m name form → Spelled name form
spelled_by name form None h = absurd h
spelled_by name form (Some m) h =
    record { mnemonic = m; text = ap (λ (x : List ℕ × Shape). x.0) h; shape = ap (λ (x : List ℕ × Shape). x.1) h }

found : (name : List ℕ) (form : Shape) → Found (mnemonic_of name) name form → Spelled name form
found name form h = spelled_by name form (mnemonic_of name) h

-- with an immediate: some mnemonics take a register in its place, the others don't
pub imm_spelled : (op : ImmOp) → ((r : RegOp) × Spelled (imm_name op) (shape.Either op r)) ⊎ Spelled (imm_name op) (shape.Immediate op)
unfolding text_of begun_with shape_of
imm_spelled imm.And = inl (reg.And, found _ _ refl)
imm_spelled imm.Xor = inl (reg.Xor, found _ _ refl)
imm_spelled imm.Or = inl (reg.Or, found _ _ refl)
imm_spelled imm.Addu = inl (reg.Addu, found _ _ refl)
imm_spelled imm.Subu = inl (reg.Subu, found _ _ refl)
imm_spelled imm.Divu = inl (reg.Divu, found _ _ refl)
imm_spelled imm.Mul = inl (reg.Mul, found _ _ refl)
imm_spelled imm.Add = inl (reg.Add, found _ _ refl)
imm_spelled imm.Sub = inl (reg.Sub, found _ _ refl)
imm_spelled imm.Div = inl (reg.Div, found _ _ refl)
imm_spelled imm.Cmp = inl (reg.Cmp, found _ _ refl)
imm_spelled _ = inr (found _ _ refl)

-- on three registers: the same the other way round
pub reg_spelled : (op : RegOp) → ((i : ImmOp) × Spelled (reg_name op) (shape.Either i op)) ⊎ Spelled (reg_name op) (shape.Registers op)
unfolding text_of begun_with shape_of
reg_spelled reg.And = inl (imm.And, found _ _ refl)
reg_spelled reg.Xor = inl (imm.Xor, found _ _ refl)
reg_spelled reg.Or = inl (imm.Or, found _ _ refl)
reg_spelled reg.Addu = inl (imm.Addu, found _ _ refl)
reg_spelled reg.Subu = inl (imm.Subu, found _ _ refl)
reg_spelled reg.Divu = inl (imm.Divu, found _ _ refl)
reg_spelled reg.Mul = inl (imm.Mul, found _ _ refl)
reg_spelled reg.Add = inl (imm.Add, found _ _ refl)
reg_spelled reg.Sub = inl (imm.Sub, found _ _ refl)
reg_spelled reg.Div = inl (imm.Div, found _ _ refl)
reg_spelled reg.Cmp = inl (imm.Cmp, found _ _ refl)
reg_spelled _ = inr (found _ _ refl)

-- every other operation
pub mem_spelled : (op : MemOp) → Spelled (mem_name op) (shape.Memory op)
unfolding text_of begun_with shape_of
mem_spelled mem.XmemBu = found _ _ refl
mem_spelled _ = found _ _ refl

pub user_spelled : (op : MemOp) → Spelled (index_name op true) (shape.UserMemory op)
unfolding text_of begun_with shape_of
user_spelled mem.XmemBu = found _ _ refl
user_spelled _ = found _ _ refl

pub lda_spelled : (size : LdaSize) → Spelled (lda_name size) (shape.Address size)
unfolding text_of begun_with shape_of
lda_spelled lda.Double = found _ _ refl
lda_spelled _ = found _ _ refl

pub bits_spelled : (op : BitOp) → Spelled (bits_name op) (shape.Bits op)
unfolding text_of begun_with shape_of
bits_spelled bits.Clr = found _ _ refl
bits_spelled _ = found _ _ refl

pub find_spelled : (ones : Bool) → Spelled (find_name ones) (shape.Find ones)
unfolding text_of begun_with shape_of
find_spelled true = found _ _ refl
find_spelled false = found _ _ refl

pub branch_spelled : (link delayed : Bool) → Spelled (branch_name link delayed) (shape.Branch link delayed)
unfolding text_of begun_with shape_of
branch_spelled true true = found _ _ refl
branch_spelled true false = found _ _ refl
branch_spelled false true = found _ _ refl
branch_spelled false false = found _ _ refl

pub branch_bit_spelled : (on delayed : Bool) → Spelled (branch_bit_name on delayed) (shape.BranchBit on delayed)
unfolding text_of begun_with shape_of
branch_bit_spelled true true = found _ _ refl
branch_bit_spelled true false = found _ _ refl
branch_bit_spelled false true = found _ _ refl
branch_bit_spelled false false = found _ _ refl

pub branch_cond_spelled : (delayed : Bool) → Spelled (branch_cond_name delayed) (shape.BranchCond delayed)
unfolding text_of begun_with shape_of
branch_cond_spelled true = found _ _ refl
branch_cond_spelled false = found _ _ refl

pub jump_spelled : (link delayed : Bool) → Spelled (jump_name link delayed) (shape.Jump link delayed)
unfolding text_of begun_with shape_of
jump_spelled true true = found _ _ refl
jump_spelled true false = found _ _ refl
jump_spelled false true = found _ _ refl
jump_spelled false false = found _ _ refl

pub trap_bit_spelled : (on : Bool) → Spelled (trap_bit_name on) (shape.TrapBit on)
unfolding text_of begun_with shape_of
trap_bit_spelled true = found _ _ refl
trap_bit_spelled false = found _ _ refl

pub tcnd_spelled : Spelled trap_cond_name shape.TrapCond
unfolding text_of begun_with shape_of
tcnd_spelled = found _ _ refl

pub tbnd_spelled : Spelled bound_name shape.Bounds
unfolding text_of begun_with shape_of
tbnd_spelled = found _ _ refl

pub rte_spelled : Spelled return_name shape.Return
unfolding text_of begun_with shape_of
rte_spelled = found _ _ refl

pub ldcr_spelled : (float : Bool) → Spelled (ldcr_name float) (shape.Ldcr float)
unfolding text_of begun_with shape_of
ldcr_spelled true = found _ _ refl
ldcr_spelled false = found _ _ refl

pub stcr_spelled : (float : Bool) → Spelled (stcr_name float) (shape.Stcr float)
unfolding text_of begun_with shape_of
stcr_spelled true = found _ _ refl
stcr_spelled false = found _ _ refl

pub xcr_spelled : (float : Bool) → Spelled (xcr_name float) (shape.Xcr float)
unfolding text_of begun_with shape_of
xcr_spelled true = found _ _ refl
xcr_spelled false = found _ _ refl
