-- The operands of instructions as whole lists of tokens (operand syntax of the assembly language).
use Rattle.std.specs.Prelude.{ℕ, ℤ, pos, neg_ℤ, Bool, true, false, ◌≡◌, ◌⊎◌, ◌<◌, ◌≤◌, ◌-◌, ◌*◌, ◌/◌, ◌%◌, ◌^◌, List, [], ◌∷◌, ◌++◌, Option, Some, None, codes}
use Rattle.m88_parse.specs.Language.Bytes.{opening_parenthesis, closing_parenthesis, opening_bracket, closing_bracket, opening_angle, closing_angle, plus_mark, minus_mark}
use Rattle.m88_base.specs.declared.reg.Reg.{Reg}
use Rattle.m88_base.specs.declared.fixup.Kind.{Kind}
use Rattle.m88_base.specs.declared.fixup.Kind.TheVariants.{Hi16, Lo16, Pc26, Pc16}
use Rattle.m88_base.specs.declared.fixup.Fixup.{Fixup}
use Rattle.m88_isa.specs.declared.instr.ImmOp.{ImmOp}
use Rattle.m88_isa.specs.declared.instr.RegOp.{RegOp}
use Rattle.m88_isa.specs.declared.instr.MemOp.{MemOp}
use Rattle.m88_isa.specs.declared.instr.LdaSize.{LdaSize}
use Rattle.m88_isa.specs.declared.instr.BitOp.{BitOp}
use Rattle.m88_isa.specs.declared.instr.BitOp.TheVariants.{Rot}
use Rattle.m88_isa.specs.declared.instr.Instr.{Instr}
use Rattle.m88_isa.specs.declared.instr.Instr.TheVariants as instr
use Rattle.m88_parse.specs.declared.unit.Value.{Value}
use Rattle.m88_parse.specs.declared.unit.Value.TheVariants.{Number, Symbol}
use Rattle.m88_parse.specs.Language.Words.{half_named}
use Rattle.m88_parse.specs.Language.Pieces.{Piece}
use Rattle.m88_parse.specs.Language.Names.{IsMark, IsComma, IsNumber, IsNamed, IsRegister, IsControl, IsBit, IsCondition, IsSymbol}

-- the negative of a number modulo another
abbrev pub minus : ℕ → ℕ → ℕ
minus modulus n = (modulus - n) % modulus

-- a number from minus half the modulus to the modulus less 1, with a sign of its own below 0
abbrev pub IsSigned : ℕ → List Piece → ℕ → Type 0
IsSigned modulus (p ∷ []) v = IsNumber v p × (v < modulus)
IsSigned modulus (m ∷ p ∷ []) v =
    IsMark minus_mark m × ((n : ℕ) × IsNumber n p × (n ≤ modulus / 2) × (v ≡ minus modulus n))
IsSigned modulus ps v = ⊥

-- the symbol of a fixup, with its column
abbrev pub IsSymbolOf : Kind → Fixup → Piece → Type 0
IsSymbolOf kind f p = (f.kind ≡ kind) × IsSymbol f.symbol p × (f.col ≡ p.col)

-- what is added to a symbol: a number below 2^31 behind + or -
abbrev pub IsAddend : ℕ → Piece → Piece → Type 0
IsAddend addend m p = (n : ℕ) × IsNumber n p × (n < 2 ^ 31)
    × ((IsMark plus_mark m × (addend ≡ n)) ⊎ (IsMark minus_mark m × (addend ≡ minus (2 ^ 32) n)))

-- a symbol, or a symbol plus or minus a number
abbrev pub IsFixup : Kind → List Piece → Fixup → Type 0
IsFixup kind (s ∷ []) f = IsSymbolOf kind f s × (f.addend ≡ 0)
IsFixup kind (s ∷ m ∷ p ∷ []) f = IsSymbolOf kind f s × IsAddend f.addend m p
IsFixup kind ps f = ⊥

-- E: a number, or a symbol with what is added to it
abbrev pub IsValue : Kind → List Piece → Value → Type 0
IsValue kind ps (Number n) = IsSigned (2 ^ 32) ps n
IsValue kind ps (Symbol f) = IsFixup kind ps f

-- half of a value: of a number at once, of a symbol by a fixup
abbrev pub IsHalfOf : Kind → Value → ℕ → Option Fixup → Type 0
IsHalfOf Hi16 (Number n) imm fixup = (imm ≡ n / 65536) × (fixup ≡ None)
IsHalfOf Lo16 (Number n) imm fixup = (imm ≡ n % 65536) × (fixup ≡ None)
IsHalfOf kind (Number n) imm fixup = ⊥
IsHalfOf kind (Symbol f) imm fixup = (imm ≡ 0) × (fixup ≡ Some f)

-- an immediate: a number 0 to 65535, hi16(E) or lo16(E)
pub data IsImmediate : List Piece → ℕ → Option Fixup → Type 0 where
  short : {p : Piece} {imm : ℕ} → IsNumber imm p → imm < 2 ^ 16 → IsImmediate (p ∷ []) imm None
  half : {h o : Piece} {ps : List Piece} (inside : List Piece) (c : Piece) (name : List ℕ) (kind : Kind) (v : Value)
      {imm : ℕ} {fixup : Option Fixup}
      → IsNamed name h → half_named name ≡ Some kind → IsMark opening_parenthesis o → ps ≡ inside ++ c ∷ []
      → IsValue kind inside v → IsMark closing_parenthesis c → IsHalfOf kind v imm fixup
      → IsImmediate (h ∷ o ∷ ps) imm fixup

-- a register, and what stands behind the comma after it
pub record Behind (r : Reg) (ps rest : List Piece) : Type 0 where
  pub operand : Piece
  pub comma : Piece
  pub tokens : ps ≡ operand ∷ comma ∷ rest
  pub register : IsRegister r operand
  pub parted : IsComma comma

-- [rS2]
abbrev pub IsScaled : Reg → List Piece → Type 0
IsScaled r (o ∷ p ∷ c ∷ []) = IsMark opening_bracket o × IsRegister r p × IsMark closing_bracket c
IsScaled r ps = ⊥

-- a register and nothing else
abbrev pub IsLast : Reg → List Piece → Type 0
IsLast r (p ∷ []) = IsRegister r p
IsLast r ps = ⊥

-- a width or an offset, 0 to 31; a rotation has the width 0 alone
abbrev pub most_width : BitOp → ℕ
most_width Rot = 0
most_width op = 31

-- W<O>, or <O>, whose width is 0
abbrev pub IsLiteral : ℕ → List Piece → ℕ → ℕ → Type 0
IsLiteral most (w ∷ o ∷ p ∷ c ∷ []) width offset = IsNumber width w × (width ≤ most) × IsMark opening_angle o
    × IsNumber offset p × (offset < 32) × IsMark closing_angle c
IsLiteral most (o ∷ p ∷ c ∷ []) width offset = (width ≡ 0) × IsMark opening_angle o × IsNumber offset p
    × (offset < 32) × IsMark closing_angle c
IsLiteral most ps width offset = ⊥

-- words forward or back, written in bytes behind the place of the statement: a multiple of 4 that fits a sign and so
-- many bits of words
abbrev pub IsDistance : ℕ → ℤ → Piece → Piece → Type 0
IsDistance bits words m p = (n : ℕ) × IsNumber (4 * n) p
    × ((IsMark plus_mark m × (n < 2 ^ bits) × (words ≡ pos n))
    ⊎ (IsMark minus_mark m × (n ≤ 2 ^ bits) × (words ≡ neg_ℤ (pos n))))

-- T with a place: ., .+N or .-N
abbrev pub IsPlace : ℕ → List Piece → ℤ → Type 0
IsPlace bits (h ∷ []) words = IsNamed (codes ".") h × (words ≡ pos 0)
IsPlace bits (h ∷ m ∷ p ∷ []) words = IsNamed (codes ".") h × IsDistance bits words m p
IsPlace bits ps words = ⊥

-- T: a place, or a symbol with what is added to it
pub data IsGoal (kind : Kind) (bits : ℕ) : List Piece → ℤ → Option Fixup → Type 0 where
  place : {ps : List Piece} {words : ℤ} → IsPlace bits ps words → IsGoal kind bits ps words None
  symbol : {ps : List Piece} {f : Fixup} → IsFixup kind ps f → IsGoal kind bits ps (pos 0) (Some f)

-- the operands of each form, an instruction that they make, and the fixup of its one field that waits for a symbol
pub data AreOperands : List Piece → Instr → Option Fixup → Type 0 where
  -- rD,rS1 and an immediate
  immediate : {op : ImmOp} {d s1 : Reg} {ps qs rest : List Piece} {imm : ℕ} {fixup : Option Fixup}
      → Behind d ps qs → Behind s1 qs rest → IsImmediate rest imm fixup
      → AreOperands ps (instr.Imm op d s1 imm) fixup
  -- rD,rS1,rS2
  registers : {op : RegOp} {d s1 s2 : Reg} {ps qs rest : List Piece}
      → Behind d ps qs → Behind s1 qs rest → IsLast s2 rest
      → AreOperands ps (instr.Regs op d s1 s2) None
  -- rD,rS1 and an immediate, of memory
  offset : {op : MemOp} {d s1 : Reg} {ps qs rest : List Piece} {imm : ℕ} {fixup : Option Fixup}
      → Behind d ps qs → Behind s1 qs rest → IsImmediate rest imm fixup
      → AreOperands ps (instr.MemImm op d s1 imm) fixup
  -- rD,rS1,rS2 of memory
  index : {op : MemOp} {usr : Bool} {d s1 s2 : Reg} {ps qs rest : List Piece}
      → Behind d ps qs → Behind s1 qs rest → IsLast s2 rest
      → AreOperands ps (instr.MemReg op d s1 s2 false usr) None
  -- rD,rS1[rS2] of memory
  scaled : {op : MemOp} {usr : Bool} {d s1 s2 : Reg} {ps rest : List Piece} {p : Piece}
      → Behind d ps (p ∷ rest) → IsRegister s1 p → IsScaled s2 rest
      → AreOperands ps (instr.MemReg op d s1 s2 true usr) None
  -- rD,rS1[rS2] of a load of an address
  address : {size : LdaSize} {d s1 s2 : Reg} {ps rest : List Piece} {p : Piece}
      → Behind d ps (p ∷ rest) → IsRegister s1 p → IsScaled s2 rest
      → AreOperands ps (instr.Lda size d s1 s2) None
  -- rD,rS1,W<O> or rD,rS1,<O>
  literal : {op : BitOp} {d s1 : Reg} {ps qs rest : List Piece} {width offset : ℕ}
      → Behind d ps qs → Behind s1 qs rest → IsLiteral (most_width op) rest width offset
      → AreOperands ps (instr.BitLit op d s1 width offset) None
  -- rD,rS1,rS2 of a bit field
  field : {op : BitOp} {d s1 s2 : Reg} {ps qs rest : List Piece}
      → Behind d ps qs → Behind s1 qs rest → IsLast s2 rest
      → AreOperands ps (instr.BitReg op d s1 s2) None
  -- rD,rS2
  find : {ones : Bool} {d s2 : Reg} {ps rest : List Piece}
      → Behind d ps rest → IsLast s2 rest → AreOperands ps (instr.Find ones d s2) None
  -- T, in a field of 26 bits
  branch : {link delayed : Bool} {ps : List Piece} {words : ℤ} {fixup : Option Fixup}
      → IsGoal Pc26 25 ps words fixup
      → AreOperands ps (instr.Branch link delayed words) fixup
  -- B,rS1,T, in a field of 16 bits
  branch_bit : {set delayed : Bool} {bit : ℕ} {s1 : Reg} {b c : Piece} {ps rest : List Piece} {words : ℤ}
      {fixup : Option Fixup}
      → IsBit bit b → IsComma c → Behind s1 ps rest → IsGoal Pc16 15 rest words fixup
      → AreOperands (b ∷ c ∷ ps) (instr.BranchBit set delayed bit s1 words) fixup
  -- M,rS1,T, in a field of 16 bits
  branch_condition : {delayed : Bool} {mask : ℕ} {s1 : Reg} {m c : Piece} {ps rest : List Piece} {words : ℤ}
      {fixup : Option Fixup}
      → IsCondition mask m → IsComma c → Behind s1 ps rest → IsGoal Pc16 15 rest words fixup
      → AreOperands (m ∷ c ∷ ps) (instr.BranchCond delayed mask s1 words) fixup
  -- rS2
  jump : {link delayed : Bool} {s2 : Reg} {ps : List Piece}
      → IsLast s2 ps → AreOperands ps (instr.Jump link delayed s2) None
  -- B,rS1,N
  trap_bit : {set : Bool} {bit vector : ℕ} {s1 : Reg} {b c v : Piece} {ps : List Piece}
      → IsBit bit b → IsComma c → Behind s1 ps (v ∷ []) → IsNumber vector v → vector < 512
      → AreOperands (b ∷ c ∷ ps) (instr.TrapBit set bit s1 vector) None
  -- M,rS1,N
  trap_condition : {mask vector : ℕ} {s1 : Reg} {m c v : Piece} {ps : List Piece}
      → IsCondition mask m → IsComma c → Behind s1 ps (v ∷ []) → IsNumber vector v → vector < 512
      → AreOperands (m ∷ c ∷ ps) (instr.TrapCond mask s1 vector) None
  -- rS1 and a number
  bound_number : {s1 : Reg} {imm : ℕ} {ps : List Piece} {p : Piece}
      → Behind s1 ps (p ∷ []) → IsNumber imm p → imm < 2 ^ 16
      → AreOperands ps (instr.BoundImm s1 imm) None
  -- rS1,rS2
  bound_register : {s1 s2 : Reg} {ps rest : List Piece}
      → Behind s1 ps rest → IsLast s2 rest → AreOperands ps (instr.BoundReg s1 s2) None
  -- nothing
  return : AreOperands [] instr.Rte None
  -- rD and a control register
  control_load : {float : Bool} {d : Reg} {cr : ℕ} {ps : List Piece} {c : Piece}
      → Behind d ps (c ∷ []) → IsControl float cr c → AreOperands ps (instr.Ldcr d cr float) None
  -- rS1 and a control register
  control_store : {float : Bool} {s1 : Reg} {cr : ℕ} {ps : List Piece} {c : Piece}
      → Behind s1 ps (c ∷ []) → IsControl float cr c → AreOperands ps (instr.Stcr s1 cr float) None
  -- rD,rS1 and a control register
  control_exchange : {float : Bool} {d s1 : Reg} {cr : ℕ} {ps qs : List Piece} {c : Piece}
      → Behind d ps qs → Behind s1 qs (c ∷ []) → IsControl float cr c
      → AreOperands ps (instr.Xcr d s1 cr float) None
