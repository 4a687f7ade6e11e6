-- Statements as forms: what stands behind the name of an operation, and what it means. A form is a list of slots, each
-- with the form of what follows it ("Instruction Set": the assembler syntax of each instruction; directives of the
-- assembly language).
use Rattle.std.specs.Prelude.{ℕ, zero, suc, ◌-◌, ◌/◌, ◌%◌, ◌^◌, Bool, true, false, List, [], ◌∷◌, length, if◌then◌else◌, None, Result, Ok}
use Rattle.m88_base.specs.declared.reg.Reg.{Reg}
use Rattle.m88_base.specs.declared.fixup.Kind.{Kind}
use Rattle.m88_base.specs.declared.fixup.Kind.TheVariants.{Pc26, Pc16, Abs32}
use Rattle.m88_isa.specs.declared.instr.ImmOp.{ImmOp}
use Rattle.m88_isa.specs.declared.instr.RegOp.{RegOp}
use Rattle.m88_isa.specs.declared.instr.MemOp.{MemOp}
use Rattle.m88_isa.specs.declared.instr.LdaSize.{LdaSize}
use Rattle.m88_isa.specs.declared.instr.BitOp.{BitOp}
use Rattle.m88_isa.specs.declared.instr.Instr.{Instr}
use Rattle.m88_isa.specs.declared.instr.Instr.TheVariants as instr
use Rattle.m88_parse.specs.declared.fault.ParseFault.{ParseFault}
use Rattle.m88_parse.specs.declared.fault.ParseKind.TheVariants.{Syntax}
use Rattle.m88_parse.specs.declared.unit.Body.{Body}
use Rattle.m88_parse.specs.declared.unit.Body.TheVariants as body
use Rattle.m88_parse.specs.declared.unit.Value.{Value}
use Rattle.m88_parse.specs.declared.operand.Immediate.{Immediate}
use Rattle.m88_parse.specs.declared.operand.Operand.{Operand}
use Rattle.m88_parse.specs.declared.operand.Operand.TheVariants as operand
use Rattle.m88_parse.specs.declared.operand.Bound.{Bound}
use Rattle.m88_parse.specs.declared.operand.Bound.TheVariants as bound
use Rattle.m88_parse.specs.declared.operand.Index.{Index}
use Rattle.m88_parse.specs.declared.operand.Index.TheVariants as index
use Rattle.m88_parse.specs.declared.operand.Field.{Field}
use Rattle.m88_parse.specs.declared.operand.Field.TheVariants as field
use Rattle.m88_parse.specs.declared.operand.Target.{Target}
use Rattle.m88_parse.specs.declared.shape.Shape.{Shape}
use Rattle.m88_parse.specs.declared.shape.Shape.TheVariants as shape
use Rattle.m88_parse.specs.declared.directive.Directive.{Directive}
use Rattle.m88_parse.specs.declared.directive.Directive.TheVariants as directive
use Rattle.m88_parse.specs.Language.Bytes.{comma_mark}
use Rattle.m88_parse.specs.Language.Operands.{most_width}
use Rattle.m88_parse.specs.Inside.State.{ReaderState, trouble, past, is_next_mark, ◌>>=◌}
use Rattle.m88_parse.specs.Inside.Slots.{Read, mark_at, line_end_at, unsigned_at, signed_at, register_at, register_comma_at, two_registers_at, two_registers_comma_at, control_at, bit_at, mask_at, symbol_at, value_at, text_at, alignment_at}
use Rattle.m88_parse.specs.Inside.Operands.{immediate_at, operand_at, bound_at, scaled_at, index_at, user_index_at, field_at, target_at}

-- one or more items with commas between them, at most so many
unfoldable pub many : {A : Type 0} → (ReaderState → Read A) → ℕ → ReaderState → Read (List A)
many item zero s = trouble Syntax s
many item (suc more) s = do
  x ← item s
  if is_next_mark comma_mark x.1 then (many item more (past x.1) >>= λ xs. Ok (x.0 ∷ xs.0, xs.1))
      else Ok (x.0 ∷ [], x.1)

-- the same, as many as there are
abbrev pub list_at : {A : Type 0} → (ReaderState → Read A) → ReaderState → Read (List A)
list_at item s = many item (suc (length s.rest)) s

-- an item of .word
abbrev pub word_item_at : ReaderState → Read Value
word_item_at s = value_at Abs32 s

-- the items that are smaller than a word
pub data Part : Type 0 where
  a_half : Part
  a_byte : Part

-- what such an item is taken modulo
abbrev pub modulus_of : Part → ℕ
modulus_of a_half = 2 ^ 16
modulus_of a_byte = 2 ^ 8

-- an item of .half or .byte
abbrev pub part_item_at : Part → ReaderState → Read ℕ
part_item_at part s = signed_at (modulus_of part / 2) (modulus_of part - 1) s >>= λ n. Ok (n.0 % modulus_of part, n.1)

-- a slot and the form behind it, by what the slot gives, or a slot that stands last and the body that it makes
pub data Form : Type 0 where
  ends : Body → Form
  comma_then : Form → Form
  register_then : (Reg → Form) → Form
  register_comma_then : (Reg → Form) → Form
  two_registers_then : (Reg → Reg → Form) → Form
  two_registers_comma_then : (Reg → Reg → Form) → Form
  control_then : Bool → (ℕ → Form) → Form
  bit_then : (ℕ → Form) → Form
  mask_then : (ℕ → Form) → Form
  unsigned_then : ℕ → (ℕ → Form) → Form
  alignment_then : (ℕ → Form) → Form
  symbol_then : (List ℕ → ℕ → Form) → Form
  bound_then : (Bound → Form) → Form
  text_then : (List ℕ → Form) → Form
  signed_ends : ℕ → ℕ → (ℕ → Body) → Form
  immediate_ends : (Immediate → Body) → Form
  operand_ends : (Operand → Body) → Form
  scaled_ends : (Reg → Body) → Form
  index_ends : (Index → Body) → Form
  user_index_ends : (Reg → Bool → Body) → Form
  field_ends : ℕ → (Field → Body) → Form
  target_ends : Kind → ℕ → (Target → Body) → Form
  words_end : (List Value → Body) → Form
  parts_end : Part → (List ℕ → Body) → Form

-- the end of the line, and what was read before it
abbrev pub end_with : Body → ReaderState → Result Body ParseFault
end_with b s = line_end_at s >>= λ t. Ok b

-- what the tokens say by a form, or the fault of the first one that can't stand where it stands
unfoldable pub read : Form → ReaderState → Result Body ParseFault
read (ends b) s = end_with b s
read (comma_then form) s = mark_at comma_mark s >>= λ t. read form t
read (register_then form) s = register_at s >>= λ x. read (form x.0) x.1
read (register_comma_then form) s = register_comma_at s >>= λ x. read (form x.0) x.1
read (two_registers_then form) s = two_registers_at s >>= λ x. read (form x.0.0 x.0.1) x.1
read (two_registers_comma_then form) s = two_registers_comma_at s >>= λ x. read (form x.0.0 x.0.1) x.1
read (control_then float form) s = control_at float s >>= λ x. read (form x.0) x.1
read (bit_then form) s = bit_at s >>= λ x. read (form x.0) x.1
read (mask_then form) s = mask_at s >>= λ x. read (form x.0) x.1
read (unsigned_then most form) s = unsigned_at most s >>= λ x. read (form x.0) x.1
read (alignment_then form) s = alignment_at s >>= λ x. read (form x.0) x.1
read (symbol_then form) s = symbol_at s >>= λ x. read (form x.0.0 x.0.1) x.1
read (bound_then form) s = bound_at s >>= λ x. read (form x.0) x.1
read (text_then form) s = text_at s >>= λ x. read (form x.0) x.1
read (signed_ends low most made) s = signed_at low most s >>= λ x. end_with (made x.0) x.1
read (immediate_ends made) s = immediate_at s >>= λ x. end_with (made x.0) x.1
read (operand_ends made) s = operand_at s >>= λ x. end_with (made x.0) x.1
read (scaled_ends made) s = scaled_at s >>= λ x. end_with (made x.0) x.1
read (index_ends made) s = index_at s >>= λ x. end_with (made x.0) x.1
read (user_index_ends made) s = user_index_at s >>= λ x. end_with (made x.0.0 x.0.1) x.1
read (field_ends most made) s = field_at most s >>= λ x. end_with (made x.0) x.1
read (target_ends kind bits made) s = target_at kind (2 ^ bits) s >>= λ x. end_with (made x.0) x.1
read (words_end made) s = list_at word_item_at s >>= λ x. end_with (made x.0) x.1
read (parts_end part made) s = list_at (part_item_at part) s >>= λ x. end_with (made x.0) x.1

-- an instruction with no fixup
abbrev pub code_only : Instr → Form
code_only i = ends (body.Code i None)

-- the instruction of that operand
abbrev pub either_body : ImmOp → RegOp → Reg → Reg → Operand → Body
either_body i r d s1 (operand.Register s2) = body.Code (instr.Regs r d s1 s2) None
either_body i r d s1 (operand.Immediate x) = body.Code (instr.Imm i d s1 x.imm) x.fixup

-- the access of that index
abbrev pub memory_body : MemOp → Reg → Reg → Index → Body
memory_body op d s1 (index.Scaled s2) = body.Code (instr.MemReg op d s1 s2 true false) None
memory_body op d s1 (index.Offset (operand.Register s2)) = body.Code (instr.MemReg op d s1 s2 false false) None
memory_body op d s1 (index.Offset (operand.Immediate x)) = body.Code (instr.MemImm op d s1 x.imm) x.fixup

-- the instruction of that field
abbrev pub bits_body : BitOp → Reg → Reg → Field → Body
bits_body op d s1 (field.Register s2) = body.Code (instr.BitReg op d s1 s2) None
bits_body op d s1 (field.Literal width offset) = body.Code (instr.BitLit op d s1 width offset) None

-- the trap of that bound
abbrev pub bounds_body : Reg → Bound → Body
bounds_body s1 (bound.Register s2) = body.Code (instr.BoundReg s1 s2) None
bounds_body s1 (bound.Number imm) = body.Code (instr.BoundImm s1 imm) None

-- rD,rS1 and an immediate or a register
abbrev pub either_form : ImmOp → RegOp → Form
either_form i r = two_registers_comma_then (λ d s1. operand_ends (λ x. either_body i r d s1 x))

-- rD,rS1 and an immediate
abbrev pub immediate_form : ImmOp → Form
immediate_form i =
    two_registers_comma_then (λ d s1. immediate_ends (λ x. body.Code (instr.Imm i d s1 x.imm) x.fixup))

-- rD,rS1,rS2
abbrev pub registers_form : RegOp → Form
registers_form r = two_registers_comma_then (λ d s1. register_then (λ s2. code_only (instr.Regs r d s1 s2)))

-- rD,rS1 and an immediate, a register, or a scaled register
abbrev pub memory_form : MemOp → Form
memory_form op = two_registers_then (λ d s1. index_ends (λ x. memory_body op d s1 x))

-- rD,rS1 and a register or a scaled register, in the user's address space
abbrev pub user_memory_form : MemOp → Form
user_memory_form op =
    two_registers_then (λ d s1. user_index_ends (λ s2 scaled. body.Code (instr.MemReg op d s1 s2 scaled true) None))

-- rD,rS1[rS2]
abbrev pub address_form : LdaSize → Form
address_form size = two_registers_then (λ d s1. scaled_ends (λ s2. body.Code (instr.Lda size d s1 s2) None))

-- rD,rS1 and a width and an offset, or a register
abbrev pub bits_form : BitOp → Form
bits_form op = two_registers_comma_then (λ d s1. field_ends (most_width op) (λ x. bits_body op d s1 x))

-- rD,rS2
abbrev pub find_bit_form : Bool → Form
find_bit_form ones = two_registers_then (λ d s2. code_only (instr.Find ones d s2))

-- a target in a field of 26 bits
abbrev pub branch_form : Bool → Bool → Form
branch_form link delayed = target_ends Pc26 25 (λ g. body.Code (instr.Branch link delayed g.words) g.fixup)

-- a bit, rS1 and a target in a field of 16 bits
abbrev pub branch_bit_form : Bool → Bool → Form
branch_bit_form on delayed =
    bit_then (λ b. comma_then (register_comma_then (λ s1.
    target_ends Pc16 15 (λ g. body.Code (instr.BranchBit on delayed b s1 g.words) g.fixup))))

-- a condition, rS1 and a target in a field of 16 bits
abbrev pub branch_cond_form : Bool → Form
branch_cond_form delayed =
    mask_then (λ m. comma_then (register_comma_then (λ s1.
    target_ends Pc16 15 (λ g. body.Code (instr.BranchCond delayed m s1 g.words) g.fixup))))

-- rS2
abbrev pub jump_form : Bool → Bool → Form
jump_form link delayed = register_then (λ s2. code_only (instr.Jump link delayed s2))

-- a bit, rS1 and a vector
abbrev pub trap_bit_form : Bool → Form
trap_bit_form on =
    bit_then (λ b. comma_then (register_comma_then (λ s1.
    unsigned_then 511 (λ v. code_only (instr.TrapBit on b s1 v)))))

-- a condition, rS1 and a vector
abbrev pub trap_cond_form : Form
trap_cond_form =
    mask_then (λ m. comma_then (register_comma_then (λ s1.
    unsigned_then 511 (λ v. code_only (instr.TrapCond m s1 v)))))

-- rS1 and a number or a register
abbrev pub bounds_form : Form
bounds_form = register_comma_then (λ s1. bound_then (λ x. ends (bounds_body s1 x)))

-- rD and a control register
abbrev pub ldcr_form : Bool → Form
ldcr_form float = register_comma_then (λ d. control_then float (λ cr. code_only (instr.Ldcr d cr float)))

-- rS1 and a control register
abbrev pub stcr_form : Bool → Form
stcr_form float = register_comma_then (λ s1. control_then float (λ cr. code_only (instr.Stcr s1 cr float)))

-- rD,rS1 and a control register
abbrev pub xcr_form : Bool → Form
xcr_form float = two_registers_comma_then (λ d s1. control_then float (λ cr. code_only (instr.Xcr d s1 cr float)))

-- the form of an instruction
unfoldable pub form_of : Shape → Form
form_of (shape.Either i r) = either_form i r
form_of (shape.Immediate i) = immediate_form i
form_of (shape.Registers r) = registers_form r
form_of (shape.Memory op) = memory_form op
form_of (shape.UserMemory op) = user_memory_form op
form_of (shape.Address size) = address_form size
form_of (shape.Bits op) = bits_form op
form_of (shape.Find ones) = find_bit_form ones
form_of (shape.Branch link delayed) = branch_form link delayed
form_of (shape.BranchBit on delayed) = branch_bit_form on delayed
form_of (shape.BranchCond delayed) = branch_cond_form delayed
form_of (shape.Jump link delayed) = jump_form link delayed
form_of (shape.TrapBit on) = trap_bit_form on
form_of shape.TrapCond = trap_cond_form
form_of shape.Bounds = bounds_form
form_of shape.Return = code_only instr.Rte
form_of (shape.Ldcr float) = ldcr_form float
form_of (shape.Stcr float) = stcr_form float
form_of (shape.Xcr float) = xcr_form float

-- the form of a directive
unfoldable pub directive_form : Directive → Form
directive_form directive.Text = ends body.Text
directive_form directive.Data = ends body.DataSection
directive_form directive.At = unsigned_then (2 ^ 32 - 1) (λ n. ends (body.At n))
directive_form directive.Word = words_end (λ vs. body.Word vs)
directive_form directive.Half = parts_end a_half (λ ns. body.Half ns)
directive_form directive.Byte = parts_end a_byte (λ ns. body.Byte ns)
directive_form directive.Ascii = text_then (λ bs. ends (body.Ascii bs))
directive_form directive.Zero = unsigned_then (2 ^ 32 - 1) (λ n. ends (body.Zero n))
directive_form directive.Align = alignment_then (λ n. ends (body.Align n))
directive_form directive.Global = symbol_then (λ name col. ends (body.Global name))
directive_form directive.Set =
    symbol_then (λ name col. comma_then (signed_ends (2 ^ 31) (2 ^ 32 - 1) (λ n. body.Set name col n)))
