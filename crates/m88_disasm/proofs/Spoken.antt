-- The text of each instruction is read as that instruction.
use Rattle.std.proofs.Common.{◌≡◌, ◌≢◌, ℕ, ℤ, pos, negsuc, ◌+◌, ◌<◌, ◌^◌, Bool, true, false, ◌==◌, inl, inr, List, [], ◌∷◌, ◌++◌, length, get_or, refl, sym, ap, subst, ◌∙◌, arith, append_assoc, append-nil, codes, decimal, eqb-true}
use Rattle.std.specs.Prelude.{None, Option, Some}
use Rattle.m88_base.specs.Hex.{hex2, hex8}
use Rattle.m88_base.specs.Reg.{number_of}
use Rattle.m88_base.specs.declared.fixup.Fixup.{Fixup}
use Rattle.m88_base.specs.declared.reg.Reg.{Reg}
use Rattle.m88_isa.specs.Instr.{FitsWords, IsValid, IsWidth}
use Rattle.m88_isa.specs.Word.{word_of}
use Rattle.m88_isa.specs.declared.instr.BitOp.{BitOp}
use Rattle.m88_isa.specs.declared.instr.BitOp.TheVariants as bits
use Rattle.m88_isa.specs.declared.instr.Instr.{Instr}
use Rattle.m88_isa.specs.declared.instr.Instr.TheVariants as instr
use Rattle.m88_parse.specs.Language.Names.{IsCondition, IsControlName, IsSymbolName}
use Rattle.m88_parse.specs.Language.Operands.{AreOperands}
use Rattle.m88_parse.specs.Language.Pieces.{Piece}
use Rattle.m88_isa.specs.Names.{bits_name, bound_name, branch_bit_name, branch_cond_name, branch_name, operation_name, return_name, trap_bit_name, trap_cond_name, xcr_name}
use Rattle.m88_parse.specs.Language.Statements.{BeginsWithNoColon, IsBody, IsStatement, at, byte, code, one, set as set_symbol, unlabelled, word}
use Rattle.m88_parse.specs.Language.Tokens.{LineTokens}
use Rattle.m88_parse.specs.declared.unit.Value.TheVariants.{Number}
use Rattle.m88_parse.specs.Language.Words.{condition_named}
use Rattle.m88_parse.specs.declared.unit.Body.{Body}
use Rattle.m88_parse.specs.declared.unit.Statement.{Statement}
use Rattle.m88_parse.specs.declared.unit.Body.TheVariants as body
use Rattle.m88_disasm.specs.Listing.{lone_byte_line, place_line, start_line}
use Rattle.m88_disasm.specs.Read.{IsReadAs, said_body, unlabelled as without_label}
use Rattle.m88_disasm.specs.Text.{condition, control, field, instr_text, register_name, scaled, spelled, target_operand, word_text}
use Rattle.m88_disasm.proofs.Parts.{AreGood, IsGood, Part, are_parted, are_printed, byte_part_good, is_mark_part, is_name_text, line_pieces, line_printed, line_tokens, name_is_printed, operation_named, name_token, numbered_name, part_hex, part_mark, part_name, part_number, part_says, part_text, parts_text, piece_of, pieces, word_name, word_part_good}
use Rattle.m88_disasm.proofs.Forms.{bits_register_form, bound_number_form, bound_register_form, branch_bit_form, branch_cond_form, branch_form, distance_of, field_form, find_form, imm_form, jump_form, lda_form, ldcr_form, mem_imm_form, mem_index_form, mem_scaled_form, reg_form, return_form, rotation_form, sign_of, stcr_form, trap_bit_form, trap_cond_form, xcr_form}

-- a line that ends nowhere within and is read as this statement
pub record SpokenAs (number : ℕ) (line : List ℕ) (x : Statement) : Type 0 where
  pub tokens : List Piece
  pub are_tokens : LineTokens line tokens
  pub statement : IsStatement number tokens x
  pub printed : are_printed line ≡ true

-- such a line, of a statement without a label
pub record Spoken (number : ℕ) (line : List ℕ) (said : Body) : Type 0 where
  pub read : IsReadAs number line said
  pub printed : are_printed line ≡ true

-- it is read as this statement
pub spoken : (number : ℕ) (line : List ℕ) (said : Body) → Spoken number line said
    → SpokenAs number line (without_label number said)
spoken number line said s =
    record { tokens = s.read.tokens; are_tokens = s.read.are_tokens; statement = s.read.statement; printed = s.printed }

-- no mark comes first, so no colon
no_colon : (col : ℕ) (p : Part) (ps : List Part) → is_mark_part p ≡ false → BeginsWithNoColon (pieces col (p ∷ ps))
no_colon col (part_mark b) ps e = absurd cc
no_colon col _ ps e = λ h. cc

-- a mnemonic and operands that are an instruction's, which may wait for a name
pub says_waiting : (p : Part) (ps : List Part) (i : Instr) (f : Option Fixup) (number : ℕ) (text : List ℕ)
    → text ≡ operation_name i ++ 32 ∷ parts_text (p ∷ ps) → AreGood (p ∷ ps) → are_parted (p ∷ ps) ≡ true
    → is_mark_part p ≡ false
    → AreOperands (pieces (1 + length (operation_name i) + 1) (p ∷ ps)) i f
    → Spoken number text (body.Code i f)
says_waiting p ps i f number text text_is goods parted first operands =
    let line : List ℕ = operation_name i ++ 32 ∷ parts_text (p ∷ ps) in
    let said : Spoken number line (body.Code i f) = record {
      read = record {
        tokens = line_pieces (operation_name i) (p ∷ ps);
        are_tokens = line_tokens (operation_name i) p ps (operation_named i) goods parted;
        statement =
            unlabelled (code refl operands) (no_colon (1 + length (operation_name i) + 1) p ps first);
      };
      printed = line_printed (operation_name i) (p ∷ ps) (operation_named i) goods;
    } in
    subst (λ (l : List ℕ). Spoken number l (body.Code i f)) (sym text_is) said

-- one that waits for none
says_code : (p : Part) (ps : List Part) (i : Instr) (number : ℕ) (text : List ℕ)
    → text ≡ operation_name i ++ 32 ∷ parts_text (p ∷ ps) → AreGood (p ∷ ps) → are_parted (p ∷ ps) ≡ true
    → is_mark_part p ≡ false
    → AreOperands (pieces (1 + length (operation_name i) + 1) (p ∷ ps)) i None
    → Spoken number text (body.Code i None)
says_code p ps i number text text_is goods parted first operands =
    says_waiting p ps i None number text text_is goods parted first operands

-- names and marks
abbrev pub reg_part : Reg → Part
reg_part r = part_name (register_name r)

-- the mark between two operands
abbrev pub comma : Part
comma = part_mark 44

pub reg_good : (r : Reg) → IsGood (reg_part r)
reg_good r = let below : number_of r < 32 = r.in_range in
    numbered_name 114 [] (number_of r) refl refl (omega arith) (omega arith)

control_good : (float : Bool) (cr : ℕ) → cr < 64 → IsGood (part_name (control float cr))
control_good true cr small = numbered_name 102 (codes "cr") cr refl refl (omega arith) (omega arith)
control_good false cr small = numbered_name 99 (codes "r") cr refl refl (omega arith) (omega arith)

pub comma_good : IsGood comma
comma_good = (refl, refl, refl)

-- a condition by its name or its number
pub record ConditionPart (mask : ℕ) : Type 0 where
  pub part : Part
  pub text_is : condition mask ≡ part_text part
  pub good : IsGood part
  pub plain : is_mark_part part ≡ false
  pub read : (p : Piece) → p.says ≡ part_says part → IsCondition mask p

named_condition : (mask : ℕ) (name : List ℕ) → condition mask ≡ name → is_name_text name ≡ true
    → condition_named name ≡ Some mask → ConditionPart mask
named_condition mask name text_is good is = record {
  part = part_name name;
  text_is = text_is;
  good = word_name name good;
  plain = refl;
  read = λ p e. inr (name, e, is);
}

pub condition_part : (mask : ℕ) → mask < 16 → ConditionPart mask
unfolding condition condition_named
condition_part mask small = by1 (mask == 1) refl
  where
    by6 : (t : Bool) → (mask == 1) ≡ false → (mask == 2) ≡ false → (mask == 3) ≡ false → (mask == 12) ≡ false
        → (mask == 13) ≡ false → (mask == 14) ≡ t → ConditionPart mask
    by6 true e1 e2 e3 e4 e5 e = subst ConditionPart (sym (eqb-true mask 14 e))
        (named_condition 14 (codes "le0") refl refl refl)
    by6 false e1 e2 e3 e4 e5 e = record {
      part = part_number mask;
      text_is = rw (e1, e2, e3, e4, e5, e) refl;
      good = omega arith;
      plain = refl;
      read = λ p says. inl (says, small);
    }

    by5 : (t : Bool) → (mask == 1) ≡ false → (mask == 2) ≡ false → (mask == 3) ≡ false → (mask == 12) ≡ false
        → (mask == 13) ≡ t → ConditionPart mask
    by5 true e1 e2 e3 e4 e = subst ConditionPart (sym (eqb-true mask 13 e))
        (named_condition 13 (codes "ne0") refl refl refl)
    by5 false e1 e2 e3 e4 e = by6 (mask == 14) e1 e2 e3 e4 e refl

    by4 : (t : Bool) → (mask == 1) ≡ false → (mask == 2) ≡ false → (mask == 3) ≡ false → (mask == 12) ≡ t
        → ConditionPart mask
    by4 true e1 e2 e3 e = subst ConditionPart (sym (eqb-true mask 12 e))
        (named_condition 12 (codes "lt0") refl refl refl)
    by4 false e1 e2 e3 e = by5 (mask == 13) e1 e2 e3 e refl

    by3 : (t : Bool) → (mask == 1) ≡ false → (mask == 2) ≡ false → (mask == 3) ≡ t → ConditionPart mask
    by3 true e1 e2 e = subst ConditionPart (sym (eqb-true mask 3 e)) (named_condition 3 (codes "ge0") refl refl refl)
    by3 false e1 e2 e = by4 (mask == 12) e1 e2 e refl

    by2 : (t : Bool) → (mask == 1) ≡ false → (mask == 2) ≡ t → ConditionPart mask
    by2 true e1 e = subst ConditionPart (sym (eqb-true mask 2 e)) (named_condition 2 (codes "eq0") refl refl refl)
    by2 false e1 e = by3 (mask == 3) e1 e refl

    by1 : (t : Bool) → (mask == 1) ≡ t → ConditionPart mask
    by1 true e = subst ConditionPart (sym (eqb-true mask 1 e)) (named_condition 1 (codes "gt0") refl refl refl)
    by1 false e = by2 (mask == 2) e refl

-- rD,rS1 and a number
said_imm : (number : ℕ) (d s1 : Reg) (n : ℕ) (i : Instr) → n < 2 ^ 16
    → AreOperands
    (pieces (1 + length (operation_name i) + 1) (reg_part d ∷ comma ∷ reg_part s1 ∷ comma ∷ part_number n ∷ [])) i None
    → Spoken number (spelled (operation_name i) (register_name d ∷ register_name s1 ∷ decimal n ∷ [])) (body.Code i None)
said_imm number d s1 n i small operands =
    says_code (reg_part d) (comma ∷ reg_part s1 ∷ comma ∷ part_number n ∷ []) i number _ refl
    (reg_good d, (comma_good, (reg_good s1, (comma_good, (omega arith, tt))))) refl refl operands

-- rD,rS1,rS2
said_regs : (number : ℕ) (d s1 s2 : Reg) (i : Instr)
    → AreOperands
    (pieces (1 + length (operation_name i) + 1) (reg_part d ∷ comma ∷ reg_part s1 ∷ comma ∷ reg_part s2 ∷ [])) i None
    → Spoken number (spelled (operation_name i) (register_name d ∷ register_name s1 ∷ register_name s2 ∷ [])) (body.Code i None)
said_regs number d s1 s2 i operands =
    says_code (reg_part d) (comma ∷ reg_part s1 ∷ comma ∷ reg_part s2 ∷ []) i number _ refl
    (reg_good d, (comma_good, (reg_good s1, (comma_good, (reg_good s2, tt))))) refl refl operands

-- two texts, each with a mark behind it
marked_twice : (x y : ℕ) (a b : List ℕ) → (((a ++ x ∷ []) ++ b) ++ y ∷ []) ++ [] ≡ a ++ x ∷ (b ++ y ∷ [])
marked_twice x y a b = append-nil (((a ++ x ∷ []) ++ b) ++ y ∷ []) ∙ simp append_assoc

-- rD,rS1[rS2]
said_scaled : (number : ℕ) (d s1 s2 : Reg) (i : Instr)
    → AreOperands
    (pieces (1 + length (operation_name i) + 1)
    (reg_part d ∷ comma ∷ reg_part s1 ∷ part_mark 91 ∷ reg_part s2 ∷ part_mark 93 ∷ [])) i None
    → Spoken number (spelled (operation_name i) (register_name d ∷ scaled s1 s2 ∷ [])) (body.Code i None)
said_scaled number d s1 s2 i operands =
    says_code (reg_part d) (comma ∷ reg_part s1 ∷ part_mark 91 ∷ reg_part s2 ∷ part_mark 93 ∷ []) i number _
    (ap (λ (xs : List ℕ). operation_name i ++ 32 ∷ (register_name d ++ 44 ∷ xs))
    (marked_twice 91 93 (register_name s1) (register_name s2)))
    (reg_good d, (comma_good, (reg_good s1, ((refl, refl, refl), (reg_good s2, ((refl, refl, refl), tt)))))) refl
    refl operands

-- rD,rS1,W<O>
said_field : (number : ℕ) (d s1 : Reg) (width offset : ℕ) (i : Instr) → width < 32 → offset < 32
    → AreOperands
    (pieces (1 + length (operation_name i) + 1)
    (reg_part d ∷ comma ∷ reg_part s1 ∷ comma ∷ part_number width ∷ part_mark 60 ∷ part_number offset ∷ part_mark 62
    ∷ []))
    i None
    → Spoken number
    (spelled (operation_name i) (register_name d ∷ register_name s1 ∷ (decimal width ++ codes "<" ++ decimal offset ++ codes ">") ∷ []))
    (body.Code i None)
said_field number d s1 width offset i wide small operands =
    says_code (reg_part d)
    (comma ∷ reg_part s1 ∷ comma ∷ part_number width ∷ part_mark 60 ∷ part_number offset ∷ part_mark 62 ∷ []) i number _
    (ap (λ (xs : List ℕ). operation_name i ++ 32 ∷ (register_name d ++ 44 ∷ (register_name s1 ++ 44 ∷ xs)))
    (marked_twice 60 62 (decimal width) (decimal offset))) (
      reg_good d,
      (
        comma_good,
        (
          reg_good s1,
          (comma_good, (omega arith, ((refl, refl, refl), (omega arith, ((refl, refl, refl), tt))))),
        ),
      ),
    ) refl refl operands

-- rD,rS1,<O>
said_rotation : (number : ℕ) (d s1 : Reg) (offset : ℕ) (i : Instr) → offset < 32
    → AreOperands
    (pieces (1 + length (operation_name i) + 1)
    (reg_part d ∷ comma ∷ reg_part s1 ∷ comma ∷ part_mark 60 ∷ part_number offset ∷ part_mark 62 ∷ [])) i None
    → Spoken number
    (spelled (operation_name i) (register_name d ∷ register_name s1 ∷ (codes "<" ++ decimal offset ++ codes ">") ∷ []))
    (body.Code i None)
said_rotation number d s1 offset i small operands =
    says_code (reg_part d)
    (comma ∷ reg_part s1 ∷ comma ∷ part_mark 60 ∷ part_number offset ∷ part_mark 62 ∷ []) i number _
    (ap (λ (xs : List ℕ). operation_name i ++ 32 ∷ (register_name d ++ 44 ∷ (register_name s1 ++ 44 ∷ (60 ∷ xs))))
    (append-nil (decimal offset ++ codes ">"))) (
      reg_good d,
      (
        comma_good,
        (
          reg_good s1,
          (comma_good, ((refl, refl, refl), (omega arith, ((refl, refl, refl), tt)))),
        ),
      ),
    ) refl refl operands

said_literal : (number : ℕ) (op : BitOp) (d s1 : Reg) (width offset : ℕ) → IsWidth op width → offset < 32
    → Spoken number (spelled (bits_name op) (register_name d ∷ register_name s1 ∷ field op width offset ∷ []))
    (body.Code (instr.BitLit op d s1 width offset) None)
said_literal number bits.Rot d s1 width offset wide small =
    said_rotation number d s1 offset (instr.BitLit bits.Rot d s1 width offset) small
    (rotation_form d s1 width offset _ _ _ _ _ _ _ refl refl refl refl refl refl refl wide small)
said_literal number op d s1 width offset wide small =
    said_field number d s1 width offset (instr.BitLit op d s1 width offset) wide small
    (field_form op d s1 width offset _ _ _ _ _ _ _ _ refl refl refl refl refl refl refl refl (omega arith) small)

-- two registers
said_pair : (number : ℕ) (r s : Reg) (i : Instr)
    → AreOperands (pieces (1 + length (operation_name i) + 1)
    (reg_part r ∷ comma ∷ reg_part s ∷ [])) i None
    → Spoken number (spelled (operation_name i) (register_name r ∷ register_name s ∷ [])) (body.Code i None)
said_pair number r s i operands =
    says_code (reg_part r) (comma ∷ reg_part s ∷ []) i number _ refl
    (reg_good r, (comma_good, (reg_good s, tt))) refl refl operands

said_single : (number : ℕ) (r : Reg) (i : Instr)
    → AreOperands (pieces (1 + length (operation_name i) + 1) (reg_part r ∷ [])) i None
    → Spoken number (spelled (operation_name i) (register_name r ∷ [])) (body.Code i None)
said_single number r i operands =
    says_code (reg_part r) [] i number _ refl (reg_good r, tt) refl refl operands

said_bound : (number : ℕ) (s1 : Reg) (n : ℕ) → n < 2 ^ 16
    → Spoken number (spelled bound_name (register_name s1 ∷ decimal n ∷ [])) (body.Code (instr.BoundImm s1 n) None)
said_bound number s1 n small =
    says_code (reg_part s1) (comma ∷ part_number n ∷ []) (instr.BoundImm s1 n) number _ refl
    (reg_good s1, (comma_good, (omega arith, tt))) refl refl (bound_number_form s1 n _ _ _ refl refl refl small)

-- targets
abbrev target_parts : ℤ → List Part
target_parts words = part_name (codes ".") ∷ part_mark (sign_of words) ∷ part_number (distance_of words) ∷ []

target_text : (words : ℤ) → target_operand words ++ [] ≡ parts_text (target_parts words)
target_text (pos n) = refl
target_text (negsuc n) = refl

target_good : (words : ℤ) → FitsWords 25 words → AreGood (target_parts words)
target_good (pos n) fits = (word_name (codes ".") refl, ((refl, refl, refl), (omega arith, tt)))
target_good (negsuc n) fits = (word_name (codes ".") refl, ((refl, refl, refl), (omega arith, tt)))

pub wider : (words : ℤ) → FitsWords 15 words → FitsWords 25 words
wider (pos n) fits = omega arith
wider (negsuc n) fits = omega arith

said_branch : (number : ℕ) (link delayed : Bool) (words : ℤ) → FitsWords 25 words
    → Spoken number (spelled (branch_name link delayed) (target_operand words ∷ []))
    (body.Code (instr.Branch link delayed words) None)
said_branch number link delayed words fits =
    says_code (part_name (codes "."))
    (part_mark (sign_of words) ∷ part_number (distance_of words) ∷ [])
    (instr.Branch link delayed words) number _
    (ap (λ (xs : List ℕ). branch_name link delayed ++ 32 ∷ xs) (target_text words)) (target_good words fits)
    refl refl
    (branch_form link delayed words _ _ _ fits refl refl refl)

said_branch_bit : (number : ℕ) (set delayed : Bool) (bit : ℕ) (s1 : Reg) (words : ℤ) → bit < 32 → FitsWords 15 words
    → Spoken number (spelled (branch_bit_name set delayed) (decimal bit ∷ register_name s1 ∷ target_operand words ∷ []))
    (body.Code (instr.BranchBit set delayed bit s1 words) None)
said_branch_bit number set delayed bit s1 words small fits =
    says_code (part_number bit) (comma ∷ reg_part s1 ∷ comma ∷ target_parts words)
    (instr.BranchBit set delayed bit s1 words) number _
    (ap (λ (xs : List ℕ). branch_bit_name set delayed ++ 32 ∷ (decimal bit ++ 44 ∷ (register_name s1 ++ 44 ∷ xs)))
    (target_text words))
    (omega arith, (comma_good, (reg_good s1, (comma_good, target_good words (wider words fits))))) refl refl
    (branch_bit_form set delayed bit s1 words _ _ _ _ _ _ _ refl small refl refl refl fits refl refl refl)

said_branch_cond : (number : ℕ) (delayed : Bool) (mask : ℕ) (s1 : Reg) (words : ℤ) → ConditionPart mask
    → FitsWords 15 words
    → Spoken number (spelled (branch_cond_name delayed) (condition mask ∷ register_name s1 ∷ target_operand words ∷ []))
    (body.Code (instr.BranchCond delayed mask s1 words) None)
said_branch_cond number delayed mask s1 words c fits =
    says_code c.part (comma ∷ reg_part s1 ∷ comma ∷ target_parts words)
    (instr.BranchCond delayed mask s1 words) number _
    (ap (λ (xs : List ℕ). branch_cond_name delayed ++ 32 ∷ (condition mask ++ 44 ∷ (register_name s1 ++ 44 ∷ xs)))
    (target_text words)
    ∙ ap (λ (ys : List ℕ). branch_cond_name delayed ++ 32 ∷
    (ys ++ 44 ∷ (register_name s1 ++ 44 ∷ parts_text (target_parts words)))) c.text_is)
    (c.good, (comma_good, (reg_good s1, (comma_good, target_good words (wider words fits))))) refl c.plain
    (branch_cond_form delayed mask s1 words _ _ _ _ _ _ _
    (c.read (piece_of (1 + length (branch_cond_name delayed) + 1) c.part) refl) refl refl refl fits refl refl
    refl)

-- traps
said_trap_bit : (number : ℕ) (set : Bool) (bit : ℕ) (s1 : Reg) (vector : ℕ) → bit < 32 → vector < 512
    → Spoken number (spelled (trap_bit_name set) (decimal bit ∷ register_name s1 ∷ decimal vector ∷ []))
    (body.Code (instr.TrapBit set bit s1 vector) None)
said_trap_bit number set bit s1 vector small few =
    says_code (part_number bit) (comma ∷ reg_part s1 ∷ comma ∷ part_number vector ∷ [])
    (instr.TrapBit set bit s1 vector) number _ refl
    (omega arith, (comma_good, (reg_good s1, (comma_good, (omega arith, tt))))) refl refl
    (trap_bit_form set bit s1 vector _ _ _ _ _ refl small refl refl refl refl few)

said_trap_cond : (number : ℕ) (mask : ℕ) (s1 : Reg) (vector : ℕ) → ConditionPart mask → vector < 512
    → Spoken number (spelled trap_cond_name (condition mask ∷ register_name s1 ∷ decimal vector ∷ []))
    (body.Code (instr.TrapCond mask s1 vector) None)
said_trap_cond number mask s1 vector c few =
    says_code c.part (comma ∷ reg_part s1 ∷ comma ∷ part_number vector ∷ [])
    (instr.TrapCond mask s1 vector) number _
    (ap (λ (ys : List ℕ). trap_cond_name ++ 32 ∷ (ys ++ 44 ∷ (register_name s1 ++ 44 ∷ (decimal vector ++ [])))) c.text_is)
    (c.good, (comma_good, (reg_good s1, (comma_good, (omega arith, tt))))) refl c.plain
    (trap_cond_form mask s1 vector _ _ _ _ _ (c.read (piece_of (1 + length trap_cond_name + 1) c.part) refl) refl
    refl refl refl few)

-- control registers
said_control : (number : ℕ) (r : Reg) (float : Bool) (cr : ℕ) (i : Instr) → cr < 64
    → AreOperands
    (pieces (1 + length (operation_name i) + 1) (reg_part r ∷ comma ∷ part_name (control float cr) ∷ [])) i None
    → Spoken number (spelled (operation_name i) (register_name r ∷ control float cr ∷ [])) (body.Code i None)
said_control number r float cr i small operands =
    says_code (reg_part r) (comma ∷ part_name (control float cr) ∷ []) i number _ refl
    (reg_good r, (comma_good, (control_good float cr small, tt))) refl refl operands

said_exchange : (number : ℕ) (d s1 : Reg) (float : Bool) (cr : ℕ) → cr < 64
    → Spoken number (spelled (xcr_name float) (register_name d ∷ register_name s1 ∷ control float cr ∷ []))
    (body.Code (instr.Xcr d s1 cr float) None)
said_exchange number d s1 float cr small =
    says_code (reg_part d) (comma ∷ reg_part s1 ∷ comma ∷ part_name (control float cr) ∷ [])
    (instr.Xcr d s1 cr float) number _ refl
    (reg_good d, (comma_good, (reg_good s1, (comma_good, (control_good float cr small, tt))))) refl refl
    (xcr_form float d s1 cr _ _ _ _ _ refl refl refl refl refl small)

-- the mnemonic alone
said_return : (number : ℕ) → Spoken number (spelled return_name []) (body.Code instr.Rte None)
said_return number =
    let alone : Spoken number return_name (body.Code instr.Rte None) = record {
      read = record {
        tokens = line_pieces return_name [];
        are_tokens = name_token return_name (operation_named instr.Rte);
        statement = unlabelled (code refl return_form) tt;
      };
      printed = name_is_printed return_name (operation_named instr.Rte);
    } in
    subst (λ (l : List ℕ). Spoken number l (body.Code instr.Rte None)) (sym (append-nil return_name)) alone

-- the operands of a directive behind its name
pub says_body : (name : List ℕ) (p : Part) (ps : List Part) (number : ℕ) (said : Body) → is_name_text name ≡ true
    → AreGood (p ∷ ps) → are_parted (p ∷ ps) ≡ true → is_mark_part p ≡ false
    → IsBody (line_pieces name (p ∷ ps)) said → Spoken number (name ++ 32 ∷ parts_text (p ∷ ps)) said
says_body name p ps number said named goods parted first is = record {
  read = record {
    tokens = line_pieces name (p ∷ ps);
    are_tokens = line_tokens name p ps (word_name name named) goods parted;
    statement = unlabelled is (no_colon (1 + length name + 1) p ps first);
  };
  printed = line_printed name (p ∷ ps) (word_name name named) goods;
}

-- a word by itself
pub said_word : (number w : ℕ) → w < 2 ^ 32 → Spoken number (word_text w) (body.Word (Number w ∷ []))
said_word number w small =
    says_body (codes ".word") (part_hex (hex8 w) w) [] number (body.Word (Number w ∷ [])) refl
    (word_part_good w small, tt) refl refl (word refl (one (refl, small)))

-- a byte by itself
pub said_byte : (number b : ℕ) → b < 2 ^ 8 → Spoken number (lone_byte_line b) (body.Byte (b ∷ []))
said_byte number b small =
    says_body (codes ".byte") (part_hex (hex2 b) b) [] number (body.Byte (b ∷ [])) refl
    (byte_part_good b small, tt) refl refl (byte refl (one (refl, small)))

-- where a part begins
pub said_place : (number a : ℕ) → a < 2 ^ 32 → Spoken number (place_line a) (body.At a)
said_place number a small =
    says_body (codes ".at") (part_hex (hex8 a) a) [] number (body.At a) refl
    (word_part_good a small, tt) refl refl (at refl refl small)

-- where the program starts
other_first : (b : ℕ) (name : List ℕ) → codes "_start" ≡ name → get_or name 0 0 ≡ b → b ≢ 95 → ⊥
other_first b name e f other = other (sym (ap (λ (xs : List ℕ). get_or xs 0 0) e ∙ f))

pub start_symbol : IsSymbolName (codes "_start")
start_symbol = record {
  valid = word_name (codes "_start") refl;
  no_place = λ e. cc;
  no_register = λ n h. other_first 114 _ h.0 refl (omega arith);
  no_control = no_control;
}
  where
    no_control : (float : Bool) (n : ℕ) → IsControlName float (codes "_start") n → ⊥
    no_control true n h = other_first 102 _ h.0 refl (omega arith)
    no_control false n h = other_first 99 _ h.0 refl (omega arith)

pub said_start : (number a : ℕ) → a < 2 ^ 32 → Spoken number (start_line a) (body.Set (codes "_start") 6 a)
said_start number a small =
    says_body (codes ".set") (part_name (codes "_start")) (comma ∷ part_hex (hex8 a) a ∷ []) number
    (body.Set (codes "_start") 6 a) refl
    (word_name (codes "_start") refl, (comma_good, (word_part_good a small, tt))) refl refl
    (set_symbol refl (refl, start_symbol) refl (refl, small))

-- the text of each instruction
pub said_instr : (number : ℕ) (i : Instr) → IsValid i → Spoken number (instr_text i) (said_body i)
unfolding instr_text
said_instr number (instr.Imm op d s1 n) v =
    said_imm number d s1 n _ v (imm_form op d s1 n _ _ _ _ _ refl refl refl refl refl v)
said_instr number (instr.MemImm op d s1 n) v =
    said_imm number d s1 n _ v (mem_imm_form op d s1 n _ _ _ _ _ refl refl refl refl refl v)
said_instr number (instr.MemReg op d s1 s2 true usr) v =
    said_scaled number d s1 s2 _
    (mem_scaled_form op usr d s1 s2 _ _ _ _ _ _ refl refl refl refl refl refl)
said_instr number (instr.MemReg op d s1 s2 false usr) v =
    said_regs number d s1 s2 _ (mem_index_form op usr d s1 s2 _ _ _ _ _ refl refl refl refl refl)
said_instr number (instr.Lda size d s1 s2) v =
    said_scaled number d s1 s2 _ (lda_form size d s1 s2 _ _ _ _ _ _ refl refl refl refl refl refl)
said_instr number (instr.Regs op d s1 s2) v =
    said_regs number d s1 s2 _ (reg_form op d s1 s2 _ _ _ _ _ refl refl refl refl refl)
said_instr number (instr.BitLit op d s1 width offset) v = said_literal number op d s1 width offset v.0 v.1
said_instr number (instr.BitReg op d s1 s2) v =
    said_regs number d s1 s2 _ (bits_register_form op d s1 s2 _ _ _ _ _ refl refl refl refl refl)
said_instr number (instr.Find ones d s2) v =
    said_pair number d s2 _ (find_form ones d s2 _ _ _ refl refl refl)
said_instr number (instr.Branch link delayed words) v = said_branch number link delayed words v
said_instr number (instr.BranchBit set delayed bit s1 words) v =
    said_branch_bit number set delayed bit s1 words v.0 v.1
said_instr number (instr.BranchCond delayed mask s1 words) v =
    said_branch_cond number delayed mask s1 words (condition_part mask v.0) v.1
said_instr number (instr.Jump link delayed s2) v =
    said_single number s2 _ (jump_form link delayed s2 _ refl)
said_instr number (instr.TrapBit set bit s1 vector) v = said_trap_bit number set bit s1 vector v.0 v.1
said_instr number (instr.TrapCond mask s1 vector) v = said_trap_cond number mask s1 vector (condition_part mask v.0) v.1
said_instr number (instr.BoundImm s1 n) v = said_bound number s1 n v
said_instr number (instr.BoundReg s1 s2) v =
    said_pair number s1 s2 _ (bound_register_form s1 s2 _ _ _ refl refl refl)
said_instr number instr.Rte v = said_return number
said_instr number (instr.Ldcr d cr float) v =
    said_control number d float cr _ v (ldcr_form float d cr _ _ _ refl refl refl v)
said_instr number (instr.Stcr s1 cr float) v =
    said_control number s1 float cr _ v (stcr_form float s1 cr _ _ _ refl refl refl v)
said_instr number (instr.Xcr d s1 cr float) v = said_exchange number d s1 float cr v
said_instr number (instr.Sfu unit rest) v = said_word number (word_of (instr.Sfu unit rest)) (omega arith)
