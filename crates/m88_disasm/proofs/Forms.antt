-- The operands of each form, by what their tokens say.
use Rattle.std.proofs.Common.{◌≡◌, ℕ, ℤ, pos, negsuc, ◌+◌, ◌*◌, ◌<◌, ◌≤◌, ◌^◌, Bool, true, false, inl, inr, List, [], ◌∷◌, refl, sym, ap, arith, codes, neg_ℤ, add-one}
use Rattle.std.specs.Prelude.{None}
use Rattle.m88_base.specs.declared.reg.Reg.{Reg}
use Rattle.m88_base.specs.Reg.{number_of, reg_of}
use Rattle.m88_base.proofs.Laws.{same_reg}
use Rattle.m88_isa.specs.Instr.{FitsWords}
use Rattle.m88_isa.specs.declared.instr.ImmOp.{ImmOp}
use Rattle.m88_isa.specs.declared.instr.RegOp.{RegOp}
use Rattle.m88_isa.specs.declared.instr.MemOp.{MemOp}
use Rattle.m88_isa.specs.declared.instr.LdaSize.{LdaSize}
use Rattle.m88_isa.specs.declared.instr.BitOp.{BitOp}
use Rattle.m88_isa.specs.declared.instr.BitOp.TheVariants as bits
use Rattle.m88_isa.specs.declared.instr.Instr.TheVariants as instr
use Rattle.m88_parse.specs.Language.Pieces.{Piece, a_name, a_number, a_mark}
use Rattle.m88_parse.specs.Language.Names.{IsCondition, IsControl, IsRegister}
use Rattle.m88_parse.specs.Language.Operands.{most_width, AreOperands, Behind, IsLiteral, IsPlace, short, place, immediate, registers, offset as memory_offset, index as plain_index, scaled, address, literal, field as register_field, find, branch, branch_bit, branch_condition, jump, trap_bit, trap_condition, bound_number, bound_register, return, control_load, control_store, control_exchange}
use Rattle.m88_disasm.specs.Text.{control, register_name}

-- a register's name says the register
pub is_register : (r : Reg) (p : Piece) → p.says ≡ a_name (register_name r) → IsRegister r p
is_register r p e =
    let below : number_of r < 32 = r.in_range in
    (register_name r, number_of r, e, (refl, omega arith), same_reg r (reg_of (number_of r)) (omega arith))

pub behind : (r : Reg) (p c : Piece) (rest : List Piece) → p.says ≡ a_name (register_name r) → c.says ≡ a_mark 44
    → Behind r (p ∷ c ∷ rest) rest
behind r p c rest e f = record { operand = p; comma = c; tokens = refl; register = is_register r p e; parted = f }

-- rD,rS1 and a number
pub imm_form : (op : ImmOp) (d s1 : Reg) (n : ℕ) (p1 c1 p2 c2 p3 : Piece) → p1.says ≡ a_name (register_name d)
    → c1.says ≡ a_mark 44 → p2.says ≡ a_name (register_name s1) → c2.says ≡ a_mark 44 → p3.says ≡ a_number n → n < 2 ^ 16
    → AreOperands (p1 ∷ c1 ∷ p2 ∷ c2 ∷ p3 ∷ []) (instr.Imm op d s1 n) None
imm_form op d s1 n p1 c1 p2 c2 p3 e1 f1 e2 f2 e3 h =
    immediate (behind d p1 c1 _ e1 f1) (behind s1 p2 c2 _ e2 f2) (short e3 h)

pub mem_imm_form : (op : MemOp) (d s1 : Reg) (n : ℕ) (p1 c1 p2 c2 p3 : Piece) → p1.says ≡ a_name (register_name d)
    → c1.says ≡ a_mark 44 → p2.says ≡ a_name (register_name s1) → c2.says ≡ a_mark 44 → p3.says ≡ a_number n → n < 2 ^ 16
    → AreOperands (p1 ∷ c1 ∷ p2 ∷ c2 ∷ p3 ∷ []) (instr.MemImm op d s1 n) None
mem_imm_form op d s1 n p1 c1 p2 c2 p3 e1 f1 e2 f2 e3 h =
    memory_offset (behind d p1 c1 _ e1 f1) (behind s1 p2 c2 _ e2 f2) (short e3 h)

-- rD,rS1,rS2
pub reg_form : (op : RegOp) (d s1 s2 : Reg) (p1 c1 p2 c2 p3 : Piece) → p1.says ≡ a_name (register_name d)
    → c1.says ≡ a_mark 44 → p2.says ≡ a_name (register_name s1) → c2.says ≡ a_mark 44 → p3.says ≡ a_name (register_name s2)
    → AreOperands (p1 ∷ c1 ∷ p2 ∷ c2 ∷ p3 ∷ []) (instr.Regs op d s1 s2) None
reg_form op d s1 s2 p1 c1 p2 c2 p3 e1 f1 e2 f2 e3 =
    registers (behind d p1 c1 _ e1 f1) (behind s1 p2 c2 _ e2 f2) (is_register s2 p3 e3)

pub mem_index_form : (op : MemOp) (usr : Bool) (d s1 s2 : Reg) (p1 c1 p2 c2 p3 : Piece) → p1.says ≡ a_name (register_name d)
    → c1.says ≡ a_mark 44 → p2.says ≡ a_name (register_name s1) → c2.says ≡ a_mark 44 → p3.says ≡ a_name (register_name s2)
    → AreOperands (p1 ∷ c1 ∷ p2 ∷ c2 ∷ p3 ∷ []) (instr.MemReg op d s1 s2 false usr) None
mem_index_form op usr d s1 s2 p1 c1 p2 c2 p3 e1 f1 e2 f2 e3 =
    plain_index (behind d p1 c1 _ e1 f1) (behind s1 p2 c2 _ e2 f2) (is_register s2 p3 e3)

pub mem_scaled_form : (op : MemOp) (usr : Bool) (d s1 s2 : Reg) (p1 c1 p2 o p3 c : Piece)
    → p1.says ≡ a_name (register_name d) → c1.says ≡ a_mark 44 → p2.says ≡ a_name (register_name s1) → o.says ≡ a_mark 91
    → p3.says ≡ a_name (register_name s2) → c.says ≡ a_mark 93
    → AreOperands (p1 ∷ c1 ∷ p2 ∷ o ∷ p3 ∷ c ∷ []) (instr.MemReg op d s1 s2 true usr) None
mem_scaled_form op usr d s1 s2 p1 c1 p2 o p3 c e1 f1 e2 fo e3 fc =
    scaled (behind d p1 c1 _ e1 f1) (is_register s1 p2 e2) (fo, is_register s2 p3 e3, fc)

pub lda_form : (size : LdaSize) (d s1 s2 : Reg) (p1 c1 p2 o p3 c : Piece) → p1.says ≡ a_name (register_name d)
    → c1.says ≡ a_mark 44 → p2.says ≡ a_name (register_name s1) → o.says ≡ a_mark 91 → p3.says ≡ a_name (register_name s2)
    → c.says ≡ a_mark 93
    → AreOperands (p1 ∷ c1 ∷ p2 ∷ o ∷ p3 ∷ c ∷ []) (instr.Lda size d s1 s2) None
lda_form size d s1 s2 p1 c1 p2 o p3 c e1 f1 e2 fo e3 fc =
    address (behind d p1 c1 _ e1 f1) (is_register s1 p2 e2) (fo, is_register s2 p3 e3, fc)

-- bit fields
pub bits_register_form : (op : BitOp) (d s1 s2 : Reg) (p1 c1 p2 c2 p3 : Piece) → p1.says ≡ a_name (register_name d)
    → c1.says ≡ a_mark 44 → p2.says ≡ a_name (register_name s1) → c2.says ≡ a_mark 44 → p3.says ≡ a_name (register_name s2)
    → AreOperands (p1 ∷ c1 ∷ p2 ∷ c2 ∷ p3 ∷ []) (instr.BitReg op d s1 s2) None
bits_register_form op d s1 s2 p1 c1 p2 c2 p3 e1 f1 e2 f2 e3 =
    register_field (behind d p1 c1 _ e1 f1) (behind s1 p2 c2 _ e2 f2) (is_register s2 p3 e3)

literal_form : (op : BitOp) (d s1 : Reg) (width offset : ℕ) (p1 c1 p2 c2 : Piece) (rest : List Piece)
    → p1.says ≡ a_name (register_name d) → c1.says ≡ a_mark 44 → p2.says ≡ a_name (register_name s1) → c2.says ≡ a_mark 44
    → IsLiteral (most_width op) rest width offset
    → AreOperands (p1 ∷ c1 ∷ p2 ∷ c2 ∷ rest) (instr.BitLit op d s1 width offset) None
literal_form op d s1 width offset p1 c1 p2 c2 rest e1 f1 e2 f2 l =
    literal (behind d p1 c1 _ e1 f1) (behind s1 p2 c2 _ e2 f2) l

-- W<O>
pub field_form : (op : BitOp) (d s1 : Reg) (width offset : ℕ) (p1 c1 p2 c2 w o p c : Piece)
    → p1.says ≡ a_name (register_name d) → c1.says ≡ a_mark 44 → p2.says ≡ a_name (register_name s1) → c2.says ≡ a_mark 44
    → w.says ≡ a_number width → o.says ≡ a_mark 60 → p.says ≡ a_number offset → c.says ≡ a_mark 62
    → width ≤ most_width op → offset < 32
    → AreOperands (p1 ∷ c1 ∷ p2 ∷ c2 ∷ w ∷ o ∷ p ∷ c ∷ [])
    (instr.BitLit op d s1 width offset) None
field_form op d s1 width offset p1 c1 p2 c2 w o p c e1 f1 e2 f2 ew fo ep fc wide small =
    literal_form op d s1 width offset p1 c1 p2 c2 _ e1 f1 e2 f2 (ew, wide, fo, ep, small, fc)

-- <O>
pub rotation_form : (d s1 : Reg) (width offset : ℕ) (p1 c1 p2 c2 o p c : Piece)
    → p1.says ≡ a_name (register_name d) → c1.says ≡ a_mark 44 → p2.says ≡ a_name (register_name s1) → c2.says ≡ a_mark 44
    → o.says ≡ a_mark 60 → p.says ≡ a_number offset → c.says ≡ a_mark 62 → width ≡ 0 → offset < 32
    → AreOperands (p1 ∷ c1 ∷ p2 ∷ c2 ∷ o ∷ p ∷ c ∷ [])
    (instr.BitLit bits.Rot d s1 width offset) None
rotation_form d s1 width offset p1 c1 p2 c2 o p c e1 f1 e2 f2 fo ep fc none small =
    literal_form bits.Rot d s1 width offset p1 c1 p2 c2 _ e1 f1 e2 f2 (none, fo, ep, small, fc)

-- two registers
pub find_form : (ones : Bool) (d s2 : Reg) (p1 c1 p2 : Piece) → p1.says ≡ a_name (register_name d) → c1.says ≡ a_mark 44
    → p2.says ≡ a_name (register_name s2)
    → AreOperands (p1 ∷ c1 ∷ p2 ∷ []) (instr.Find ones d s2) None
find_form ones d s2 p1 c1 p2 e1 f1 e2 = find (behind d p1 c1 _ e1 f1) (is_register s2 p2 e2)

pub bound_register_form : (s1 s2 : Reg) (p1 c1 p2 : Piece) → p1.says ≡ a_name (register_name s1) → c1.says ≡ a_mark 44
    → p2.says ≡ a_name (register_name s2)
    → AreOperands (p1 ∷ c1 ∷ p2 ∷ []) (instr.BoundReg s1 s2) None
bound_register_form s1 s2 p1 c1 p2 e1 f1 e2 = bound_register (behind s1 p1 c1 _ e1 f1) (is_register s2 p2 e2)

pub bound_number_form : (s1 : Reg) (n : ℕ) (p1 c1 p2 : Piece) → p1.says ≡ a_name (register_name s1) → c1.says ≡ a_mark 44
    → p2.says ≡ a_number n → n < 2 ^ 16
    → AreOperands (p1 ∷ c1 ∷ p2 ∷ []) (instr.BoundImm s1 n) None
bound_number_form s1 n p1 c1 p2 e1 f1 e2 small = bound_number (behind s1 p1 c1 _ e1 f1) e2 small

pub return_form : AreOperands [] instr.Rte None
return_form = return

-- a target: the mark of its direction and its distance
abbrev pub sign_of : ℤ → ℕ
sign_of (pos n) = 43
sign_of (negsuc n) = 45

-- its distance in bytes
abbrev pub distance_of : ℤ → ℕ
distance_of (pos n) = 4 * n
distance_of (negsuc n) = 4 * (n + 1)

is_place : (n : ℕ) (words : ℤ) (h s p : Piece) → FitsWords n words → h.says ≡ a_name (codes ".")
    → s.says ≡ a_mark (sign_of words) → p.says ≡ a_number (distance_of words) → IsPlace n (h ∷ s ∷ p ∷ []) words
is_place k (pos n) h s p fits eh es ep = (eh, (n, ep, inl (es, fits, refl)))
is_place k (negsuc n) h s p fits eh es ep =
    (eh, (n + 1, ep, inr (es, omega arith, ap (λ (i : ℕ). neg_ℤ (pos i)) (sym (add-one n)))))

pub branch_form : (link delayed : Bool) (words : ℤ) (h s p : Piece) → FitsWords 25 words → h.says ≡ a_name (codes ".")
    → s.says ≡ a_mark (sign_of words) → p.says ≡ a_number (distance_of words)
    → AreOperands (h ∷ s ∷ p ∷ []) (instr.Branch link delayed words) None
branch_form link delayed words h s p fits eh es ep = branch (place (is_place 25 words h s p fits eh es ep))

pub branch_bit_form : (set delayed : Bool) (bit : ℕ) (s1 : Reg) (words : ℤ) (b c1 p1 c2 h s p : Piece)
    → b.says ≡ a_number bit → bit < 32 → c1.says ≡ a_mark 44 → p1.says ≡ a_name (register_name s1) → c2.says ≡ a_mark 44
    → FitsWords 15 words → h.says ≡ a_name (codes ".") → s.says ≡ a_mark (sign_of words)
    → p.says ≡ a_number (distance_of words)
    → AreOperands (b ∷ c1 ∷ p1 ∷ c2 ∷ h ∷ s ∷ p ∷ [])
    (instr.BranchBit set delayed bit s1 words) None
branch_bit_form set delayed bit s1 words b c1 p1 c2 h s p eb small f1 e1 f2 fits eh es ep =
    branch_bit (inl (eb, small)) f1 (behind s1 p1 c2 _ e1 f2) (place (is_place 15 words h s p fits eh es ep))

pub branch_cond_form : (delayed : Bool) (mask : ℕ) (s1 : Reg) (words : ℤ) (b c1 p1 c2 h s p : Piece)
    → IsCondition mask b → c1.says ≡ a_mark 44 → p1.says ≡ a_name (register_name s1) → c2.says ≡ a_mark 44
    → FitsWords 15 words → h.says ≡ a_name (codes ".") → s.says ≡ a_mark (sign_of words)
    → p.says ≡ a_number (distance_of words)
    → AreOperands (b ∷ c1 ∷ p1 ∷ c2 ∷ h ∷ s ∷ p ∷ [])
    (instr.BranchCond delayed mask s1 words) None
branch_cond_form delayed mask s1 words b c1 p1 c2 h s p eb f1 e1 f2 fits eh es ep =
    branch_condition eb f1 (behind s1 p1 c2 _ e1 f2) (place (is_place 15 words h s p fits eh es ep))

pub jump_form : (link delayed : Bool) (s2 : Reg) (p : Piece) → p.says ≡ a_name (register_name s2)
    → AreOperands (p ∷ []) (instr.Jump link delayed s2) None
jump_form link delayed s2 p e = jump (is_register s2 p e)

-- traps
pub trap_bit_form : (set : Bool) (bit : ℕ) (s1 : Reg) (vector : ℕ) (b c1 p1 c2 v : Piece) → b.says ≡ a_number bit
    → bit < 32 → c1.says ≡ a_mark 44 → p1.says ≡ a_name (register_name s1) → c2.says ≡ a_mark 44 → v.says ≡ a_number vector
    → vector < 512
    → AreOperands (b ∷ c1 ∷ p1 ∷ c2 ∷ v ∷ []) (instr.TrapBit set bit s1 vector) None
trap_bit_form set bit s1 vector b c1 p1 c2 v eb small f1 e1 f2 ev few =
    trap_bit (inl (eb, small)) f1 (behind s1 p1 c2 _ e1 f2) ev few

pub trap_cond_form : (mask : ℕ) (s1 : Reg) (vector : ℕ) (b c1 p1 c2 v : Piece) → IsCondition mask b
    → c1.says ≡ a_mark 44 → p1.says ≡ a_name (register_name s1) → c2.says ≡ a_mark 44 → v.says ≡ a_number vector
    → vector < 512
    → AreOperands (b ∷ c1 ∷ p1 ∷ c2 ∷ v ∷ []) (instr.TrapCond mask s1 vector) None
trap_cond_form mask s1 vector b c1 p1 c2 v eb f1 e1 f2 ev few =
    trap_condition eb f1 (behind s1 p1 c2 _ e1 f2) ev few

-- control registers
is_control : (float : Bool) (cr : ℕ) (p : Piece) → p.says ≡ a_name (control float cr) → cr < 64 → IsControl float cr p
is_control true cr p e small = (control true cr, e, (refl, omega arith))
is_control false cr p e small = (control false cr, e, (refl, omega arith))

pub ldcr_form : (float : Bool) (d : Reg) (cr : ℕ) (p1 c1 p2 : Piece) → p1.says ≡ a_name (register_name d)
    → c1.says ≡ a_mark 44 → p2.says ≡ a_name (control float cr) → cr < 64
    → AreOperands (p1 ∷ c1 ∷ p2 ∷ []) (instr.Ldcr d cr float) None
ldcr_form float d cr p1 c1 p2 e1 f1 e2 small = control_load (behind d p1 c1 _ e1 f1) (is_control float cr p2 e2 small)

pub stcr_form : (float : Bool) (s1 : Reg) (cr : ℕ) (p1 c1 p2 : Piece) → p1.says ≡ a_name (register_name s1)
    → c1.says ≡ a_mark 44 → p2.says ≡ a_name (control float cr) → cr < 64
    → AreOperands (p1 ∷ c1 ∷ p2 ∷ []) (instr.Stcr s1 cr float) None
stcr_form float s1 cr p1 c1 p2 e1 f1 e2 small =
    control_store (behind s1 p1 c1 _ e1 f1) (is_control float cr p2 e2 small)

pub xcr_form : (float : Bool) (d s1 : Reg) (cr : ℕ) (p1 c1 p2 c2 p3 : Piece) → p1.says ≡ a_name (register_name d)
    → c1.says ≡ a_mark 44 → p2.says ≡ a_name (register_name s1) → c2.says ≡ a_mark 44 → p3.says ≡ a_name (control float cr)
    → cr < 64
    → AreOperands (p1 ∷ c1 ∷ p2 ∷ c2 ∷ p3 ∷ []) (instr.Xcr d s1 cr float) None
xcr_form float d s1 cr p1 c1 p2 c2 p3 e1 f1 e2 f2 e3 small =
    control_exchange (behind d p1 c1 _ e1 f1) (behind s1 p2 c2 _ e2 f2) (is_control float cr p3 e3 small)
