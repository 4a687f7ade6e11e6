-- The law of forms, in one walk over their slots: what is read by a form is what each of its slots is related to, the
-- other way round, and each fault is the one of the language.
use Rattle.std.proofs.Common.{◌≡◌, ◌↔◌, ℕ, Bool, false, List, [], Result, Ok, Err, refl}
use Rattle.m88_base.specs.declared.reg.Reg.{Reg}
use Rattle.m88_base.specs.declared.fixup.Kind.TheVariants.{Abs32}
use Rattle.m88_parse.specs.declared.fault.ParseFault.{ParseFault}
use Rattle.m88_parse.specs.declared.unit.Body.{Body}
use Rattle.m88_parse.specs.declared.unit.Value.{Value}
use Rattle.m88_parse.specs.declared.operand.Immediate.{Immediate}
use Rattle.m88_parse.specs.declared.operand.Operand.{Operand}
use Rattle.m88_parse.specs.declared.operand.Bound.{Bound}
use Rattle.m88_parse.specs.declared.operand.Index.{Index}
use Rattle.m88_parse.specs.declared.operand.Field.{Field}
use Rattle.m88_parse.specs.declared.operand.Target.{Target}
use Rattle.m88_parse.specs.Language.Pieces.{Piece}
use Rattle.m88_parse.specs.Inside.State.{ReaderState, ◌>>=◌}
use Rattle.m88_parse.specs.Inside.Slots.{Read, mark_at, register_at, register_comma_at, two_registers_at, two_registers_comma_at, signed_at}
use Rattle.m88_parse.specs.Inside.Grammar.{Form, ends, comma_then, register_then, register_comma_then, two_registers_then, two_registers_comma_then, control_then, bit_then, mask_then, unsigned_then, alignment_then, symbol_then, bound_then, text_then, signed_ends, immediate_ends, operand_ends, scaled_ends, index_ends, user_index_ends, field_ends, target_ends, words_end, parts_end, modulus_of, end_with, read}
use Rattle.m88_parse.specs.Language.Names.{IsRegister, IsControl, IsBit, IsCondition}
use Rattle.m88_parse.specs.Language.Operands.{IsScaled, IsSigned, IsValue}
use Rattle.m88_parse.specs.Language.Statements.{AreParted}
use Rattle.m88_parse.proofs.Law.BranchTargets.{IsTargetOf, target_start}
use Rattle.m88_parse.proofs.Law.CommaLists.{words_walk, parts_walk}
use Rattle.m88_parse.proofs.Law.SingleTokens.{st, own_names, one_register, one_control, one_bit, one_mask, IsUpTo, one_number, IsSymbolAt, one_symbol, IsText, one_text, IsPower, one_alignment}
use Rattle.m88_parse.proofs.Law.Values.{IsWhole, signed_start}
use Rattle.m88_parse.proofs.Law.Immediates.{IsImmediateOf, immediate_start, IsOperandOf, operand_start, IsBoundOf, one_bound}
use Rattle.m88_parse.proofs.Law.Readings.{Reading, Relation, followed, Followed, Then, AfterComma, Last, Ends, Walk, Start, begun, lawful, start_as, end_start, mark_start, slot_start, last_start}
use Rattle.m88_parse.proofs.Law.IndicesAndFields.{scaled_start, IsIndexOf, index_start, IsUserIndexOf, user_index_start, IsFieldOf, field_start}

-- the tokens that each slot of a form is related to, and the body that they make
abbrev pub Meets : Form → List Piece → Body → Type 0
Meets (ends made) ps b = (ps ≡ []) × (made ≡ b)
Meets (comma_then form) ps b = AfterComma (λ qs. Meets form qs b) ps
Meets (register_then form) ps b = Then Reg IsRegister (λ x qs. Meets (form x) qs b) ps
Meets (register_comma_then form) ps b = Then Reg IsRegister (λ x. AfterComma (λ qs. Meets (form x) qs b)) ps
Meets (two_registers_then form) ps b = Then Reg IsRegister (λ d. AfterComma (λ qs. Then Reg IsRegister (λ s1 rs. Meets (form d s1) rs b) qs)) ps
Meets (two_registers_comma_then form) ps b = Then Reg IsRegister (λ d. AfterComma (λ qs. Then Reg IsRegister (λ s1. AfterComma (λ rs. Meets (form d s1) rs b)) qs)) ps
Meets (control_then float form) ps b = Then ℕ (IsControl float) (λ x qs. Meets (form x) qs b) ps
Meets (bit_then form) ps b = Then ℕ IsBit (λ x qs. Meets (form x) qs b) ps
Meets (mask_then form) ps b = Then ℕ IsCondition (λ x qs. Meets (form x) qs b) ps
Meets (unsigned_then most form) ps b = Then ℕ (IsUpTo most) (λ x qs. Meets (form x) qs b) ps
Meets (alignment_then form) ps b = Then ℕ IsPower (λ x qs. Meets (form x) qs b) ps
Meets (symbol_then form) ps b = Then (List ℕ × ℕ) IsSymbolAt (λ x qs. Meets (form x.0 x.1) qs b) ps
Meets (bound_then form) ps b = Then Bound IsBoundOf (λ x qs. Meets (form x) qs b) ps
Meets (text_then form) ps b = Then (List ℕ) IsText (λ x qs. Meets (form x) qs b) ps
Meets (signed_ends low most made) ps b = Last ℕ (IsWhole low most) made ps b
Meets (immediate_ends made) ps b = Last Immediate IsImmediateOf made ps b
Meets (operand_ends made) ps b = Last Operand IsOperandOf made ps b
Meets (scaled_ends made) ps b = Last Reg (λ qs r. IsScaled r qs) made ps b
Meets (index_ends made) ps b = Last Index IsIndexOf made ps b
Meets (user_index_ends made) ps b = Last (Reg × Bool) IsUserIndexOf (λ x. made x.0 x.1) ps b
Meets (field_ends most made) ps b = Last Field (IsFieldOf most) made ps b
Meets (target_ends kind bits made) ps b = Last Target (IsTargetOf kind bits) made ps b
Meets (words_end made) ps b = Last (List Value) (AreParted (IsValue Abs32)) made ps b
Meets (parts_end part made) ps b = Last (List ℕ) (AreParted (IsSigned (modulus_of part))) made ps b

-- a register and the comma behind it, one after the other

parted : (next : Reg → Reading Body) (s : ReaderState) → followed register_comma_at next s
    ≡ (register_at s >>= λ (x : Reg × ReaderState). mark_at 44 x.1 >>= next x.0)
unfolding register_comma_at
parted next s = by_register (register_at s)
  where
    by_mark : (r : Reg) (m : Result ReaderState ParseFault)
        → ((m >>= λ (t : ReaderState). let y : Read Reg = Ok (r, t) in y) >>= λ (x : Reg × ReaderState). next x.0 x.1) ≡ (m >>= next r)
    by_mark r (Ok t) = refl
    by_mark r (Err f) = refl

    by_register : (r : Read Reg)
        → ((r >>= λ (x : Reg × ReaderState). mark_at 44 x.1 >>= λ (t : ReaderState). let y : Read Reg = Ok (x.0, t) in y) >>= λ (x : Reg × ReaderState). next x.0 x.1)
        ≡ (r >>= λ (x : Reg × ReaderState). mark_at 44 x.1 >>= next x.0)
    by_register (Ok x) = by_mark x.0 (mark_at 44 x.1)
    by_register (Err f) = refl

-- what stands behind a register and its comma
abbrev Behind : (Reg → Relation Body) → Relation Body
Behind Next ps b = Then Reg IsRegister (λ x. AfterComma (λ qs. Next x qs b)) ps

register_comma_start : {few line e : ℕ} (next : Reg → Reading Body) (Next : Reg → Relation Body) → ((x : Reg) → Walk few line e (next x) (Next x))
    → Start few false own_names line e (followed register_comma_at next) (Behind Next)
register_comma_start {line = line} {e = e} next Next go =
    start_as (followed register_comma_at next) (Behind Next) (λ ps. parted next (st line e ps)) (λ ps b. (λ w. w, λ w. w))
    (slot_start (one_register line e) (λ x s. mark_at 44 s >>= next x) (λ x qs b. AfterComma (λ rs. Next x rs b) qs) (λ x. begun (mark_start 44 refl refl (go x))))

-- two registers, one after the other

paired : (slot : ReaderState → Read Reg) (next : Reg → Reg → Reading Body) (s : ReaderState)
    → ((register_comma_at s >>= λ (d : Reg × ReaderState). slot d.1 >>= λ (s1 : Reg × ReaderState). let y : Read (Reg × Reg) = Ok ((d.0, s1.0), s1.1) in y) >>= λ (x : (Reg × Reg) × ReaderState). next x.0.0 x.0.1 x.1)
    ≡ followed register_comma_at (λ d. followed slot (next d)) s
paired slot next s = by_first (register_comma_at s)
  where
    by_second : (d : Reg) (r : Read Reg)
        → ((r >>= λ (s1 : Reg × ReaderState). let y : Read (Reg × Reg) = Ok ((d, s1.0), s1.1) in y) >>= λ (x : (Reg × Reg) × ReaderState). next x.0.0 x.0.1 x.1)
        ≡ (r >>= λ (s1 : Reg × ReaderState). next d s1.0 s1.1)
    by_second d (Ok x) = refl
    by_second d (Err f) = refl

    by_first : (r : Read Reg)
        → ((r >>= λ (d : Reg × ReaderState). slot d.1 >>= λ (s1 : Reg × ReaderState). let y : Read (Reg × Reg) = Ok ((d.0, s1.0), s1.1) in y) >>= λ (x : (Reg × Reg) × ReaderState). next x.0.0 x.0.1 x.1)
        ≡ (r >>= λ (d : Reg × ReaderState). followed slot (next d.0) d.1)
    by_first (Ok x) = by_second x.0 (slot x.1)
    by_first (Err f) = refl

-- each form, walked once

pub form_walk : (form : Form) (few line e : ℕ) → Walk few line e (read form) (Meets form)
unfolding read two_registers_at two_registers_comma_at
form_walk (ends made) few line e = begun (end_start few line e made)
form_walk (comma_then form) few line e = begun (mark_start 44 refl refl (form_walk form few line e))
form_walk (register_then form) few line e = begun (slot_start (one_register line e) (λ x. read (form x)) (λ x. Meets (form x)) (λ x. form_walk (form x) few line e))
form_walk (register_comma_then form) few line e = begun (register_comma_start (λ x. read (form x)) (λ x. Meets (form x)) (λ x. form_walk (form x) few line e))
form_walk (two_registers_then form) few line e =
    begun (start_as (read (two_registers_then form)) (Meets (two_registers_then form)) (λ ps. paired register_at (λ d s1. read (form d s1)) (st line e ps)) (λ ps b. (λ w. w, λ w. w))
    (register_comma_start (λ d. followed register_at (λ s1. read (form d s1))) (λ d. Followed IsRegister (λ s1. Meets (form d s1)))
    (λ d. begun (slot_start (one_register line e) (λ s1. read (form d s1)) (λ s1. Meets (form d s1)) (λ s1. form_walk (form d s1) few line e)))))
form_walk (two_registers_comma_then form) few line e =
    begun (start_as (read (two_registers_comma_then form)) (Meets (two_registers_comma_then form)) (λ ps. paired register_comma_at (λ d s1. read (form d s1)) (st line e ps)) (λ ps b. (λ w. w, λ w. w))
    (register_comma_start (λ d. followed register_comma_at (λ s1. read (form d s1))) (λ d. Behind (λ s1. Meets (form d s1)))
    (λ d. begun (register_comma_start (λ s1. read (form d s1)) (λ s1. Meets (form d s1)) (λ s1. form_walk (form d s1) few line e)))))
form_walk (control_then float form) few line e = begun (slot_start (one_control float line e) (λ x. read (form x)) (λ x. Meets (form x)) (λ x. form_walk (form x) few line e))
form_walk (bit_then form) few line e = begun (slot_start (one_bit line e) (λ x. read (form x)) (λ x. Meets (form x)) (λ x. form_walk (form x) few line e))
form_walk (mask_then form) few line e = begun (slot_start (one_mask line e) (λ x. read (form x)) (λ x. Meets (form x)) (λ x. form_walk (form x) few line e))
form_walk (unsigned_then most form) few line e = begun (slot_start (one_number most line e) (λ x. read (form x)) (λ x. Meets (form x)) (λ x. form_walk (form x) few line e))
form_walk (alignment_then form) few line e = begun (slot_start (one_alignment line e) (λ x. read (form x)) (λ x. Meets (form x)) (λ x. form_walk (form x) few line e))
form_walk (symbol_then form) few line e = begun (slot_start (one_symbol line e) (λ x. read (form x.0 x.1)) (λ x. Meets (form x.0 x.1)) (λ x. form_walk (form x.0 x.1) few line e))
form_walk (bound_then form) few line e = begun (slot_start (one_bound line e) (λ x. read (form x)) (λ x. Meets (form x)) (λ x. form_walk (form x) few line e))
form_walk (text_then form) few line e = begun (slot_start (one_text line e) (λ x. read (form x)) (λ x. Meets (form x)) (λ x. form_walk (form x) few line e))
form_walk (signed_ends low most made) few line e =
    begun (last_start (IsWhole low most) (signed_at low most) made (signed_start low most (λ n. end_with (made n)) (Ends made) (λ n. begun (end_start few line e (made n)))))
form_walk (immediate_ends made) few line e = begun (immediate_start few line e made)
form_walk (operand_ends made) few line e = begun (operand_start few line e made)
form_walk (scaled_ends made) few line e = begun (scaled_start few line e made)
form_walk (index_ends made) few line e = begun (index_start few line e made)
form_walk (user_index_ends made) few line e = begun (user_index_start few line e (λ x. made x.0 x.1))
form_walk (field_ends most made) few line e = begun (field_start most few line e made)
form_walk (target_ends kind bits made) few line e = begun (target_start kind bits few line e made)
form_walk (words_end made) few line e = words_walk few line e made
form_walk (parts_end part made) few line e = parts_walk part few line e made

pub form_law : (form : Form) (line e : ℕ) (ps : List Piece) (b : Body) → (read form (st line e ps) ≡ Ok b) ↔ Meets form ps b
form_law form line e ps b = lawful (λ few. form_walk form few line e) ps b
