-- The law of instructions: the slots of a form are met by the operands that make its instruction, and by no others.
use Rattle.std.proofs.Common.{◌≡◌, ℕ, Bool, true, false, inl, inr, List, [], ◌∷◌, Option, None, refl, sym, ap, ◌∙◌, arith, subst}
use Rattle.m88_base.specs.declared.reg.Reg.{Reg}
use Rattle.m88_base.specs.declared.fixup.Fixup.{Fixup}
use Rattle.m88_isa.specs.declared.instr.ImmOp.{ImmOp}
use Rattle.m88_isa.specs.declared.instr.RegOp.{RegOp}
use Rattle.m88_isa.specs.declared.instr.MemOp.{MemOp}
use Rattle.m88_isa.specs.declared.instr.BitOp.{BitOp}
use Rattle.m88_isa.specs.Mnemonic.{text_of}
use Rattle.m88_isa.specs.declared.mnemonic.Mnemonic.{Mnemonic}
use Rattle.m88_isa.specs.declared.instr.Instr.{Instr}
use Rattle.m88_isa.specs.declared.instr.Instr.TheVariants as instr
use Rattle.m88_parse.specs.declared.unit.Body.{Body}
use Rattle.m88_parse.specs.declared.unit.Body.TheVariants as body
use Rattle.m88_parse.specs.declared.operand.Immediate.{Immediate}
use Rattle.m88_parse.specs.declared.operand.Operand.{Operand}
use Rattle.m88_parse.specs.declared.operand.Operand.TheVariants as operand
use Rattle.m88_parse.specs.declared.operand.Bound.{Bound}
use Rattle.m88_parse.specs.declared.operand.Bound.TheVariants as bound
use Rattle.m88_parse.specs.declared.operand.Index.{Index}
use Rattle.m88_parse.specs.declared.operand.Index.TheVariants as index
use Rattle.m88_parse.specs.declared.operand.Field.{Field}
use Rattle.m88_parse.specs.declared.operand.Field.TheVariants as field
use Rattle.m88_parse.specs.declared.shape.Shape.{Shape}
use Rattle.m88_parse.specs.declared.shape.Shape.TheVariants as shape
use Rattle.m88_parse.specs.Language.Pieces.{Piece}
use Rattle.m88_isa.specs.Names.{operation_name}
use Rattle.m88_parse.specs.Inside.Shapes.{shape_of}
use Rattle.m88_parse.specs.Inside.Grammar.{either_body, memory_body, bits_body, bounds_body, form_of}
use Rattle.m88_parse.specs.Language.Operands.{most_width, Behind, IsImmediate, IsLast, IsScaled, AreOperands, immediate, registers, offset, index as plain_index, scaled, address, literal, field as register_field, find, branch, branch_bit, branch_condition, jump, trap_bit, trap_condition, bound_number, bound_register, return, control_load, control_store, control_exchange}
use Rattle.m88_parse.specs.Language.Names.{IsComma, IsRegister}
use Rattle.m88_parse.proofs.Law.Immediates.{IsOperandOf, IsBoundOf}
use Rattle.m88_parse.proofs.Law.IndicesAndFields.{IsIndexOf, UserIndex, IsFieldOf}
use Rattle.m88_parse.proofs.Law.Readings.{Then, AfterComma}
use Rattle.m88_parse.proofs.Law.OperandForms.{Meets}
use Rattle.m88_parse.proofs.Law.Mnemonics.{IsNameOf, Spelled, imm_spelled, reg_spelled, mem_spelled, user_spelled, lda_spelled, bits_spelled, find_spelled, branch_spelled, branch_bit_spelled, branch_cond_spelled, jump_spelled, trap_bit_spelled, tcnd_spelled, tbnd_spelled, rte_spelled, ldcr_spelled, stcr_spelled, xcr_spelled}

-- a token and a comma, a register and a comma, and a token that stands last

pub record First (A : Type 0) (Is : A → Piece → Type 0) (Next : A → List Piece → Type 0) (ps : List Piece) : Type 0 where
  pub value : A
  pub piece : Piece
  pub comma : Piece
  pub rest : List Piece
  pub tokens : ps ≡ piece ∷ comma ∷ rest
  pub is : Is value piece
  pub parted : IsComma comma
  pub next : Next value rest

pub first_met : {A : Type 0} {Is : A → Piece → Type 0} {Next : A → List Piece → Type 0} {ps : List Piece} → Then A Is (λ x. AfterComma (Next x)) ps → First A Is Next ps
first_met w =
    let c = w.next in
    record { value = w.value; piece = w.piece; comma = c.0; rest = c.1; tokens = w.tokens ∙ ap (λ (qs : List Piece). w.piece ∷ qs) c.2; is = w.is; parted = c.3; next = c.4 }

behind_met : {Next : Reg → List Piece → Type 0} {ps : List Piece} → Then Reg IsRegister (λ x. AfterComma (Next x)) ps → (d : Reg) × (rest : List Piece) × Behind d ps rest × Next d rest
behind_met w = let f = first_met w in (f.value, f.rest, record { operand = f.piece; comma = f.comma; tokens = f.tokens; register = f.is; parted = f.parted }, f.next)

pub only_met : {A : Type 0} {Is : A → Piece → Type 0} {made : A → Body} {ps : List Piece} {b : Body} → Then A Is (λ x qs. (qs ≡ []) × (made x ≡ b)) ps → (x : A) × (p : Piece) × (ps ≡ p ∷ []) × Is x p × (made x ≡ b)
only_met w = let n = w.next in (w.value, w.piece, w.tokens ∙ ap (λ (qs : List Piece). w.piece ∷ qs) n.0, w.is, n.1)

last_met : {made : Reg → Body} {ps : List Piece} {b : Body} → Then Reg IsRegister (λ x qs. (qs ≡ []) × (made x ≡ b)) ps → (r : Reg) × IsLast r ps × (made r ≡ b)
last_met w = let k = only_met w in (k.0, subst (IsLast k.0) (sym k.2) k.3, k.4)

pub met_one : {A : Type 0} {Is : A → Piece → Type 0} {Next : A → List Piece → Type 0} {p : Piece} {rest : List Piece} (x : A) → Is x p → Next x rest → Then A Is Next (p ∷ rest)
met_one {p = p} {rest = rest} x h n = record { value = x; piece = p; rest = rest; tokens = refl; is = h; next = n }

pub met_first : {A : Type 0} {Is : A → Piece → Type 0} {Next : A → List Piece → Type 0} {p c : Piece} {rest : List Piece} (x : A) → Is x p → IsComma c → Next x rest → Then A Is (λ y. AfterComma (Next y)) (p ∷ c ∷ rest)
met_first {c = c} {rest = rest} x h k n = met_one x h (c, rest, refl, k, n)

met_behind : {Next : Reg → List Piece → Type 0} {d : Reg} {ps rest : List Piece} → Behind d ps rest → Next d rest → Then Reg IsRegister (λ x. AfterComma (Next x)) ps
met_behind {d = d} {rest = rest} w n = record { value = d; piece = w.operand; rest = w.comma ∷ rest; tokens = w.tokens; is = w.register; next = (w.comma, rest, refl, w.parted, n) }

met_last : {Next : Reg → List Piece → Type 0} {ps : List Piece} (r : Reg) → IsLast r ps → Next r [] → Then Reg IsRegister Next ps
met_last {ps = []} r h n = absurd h
met_last {ps = p ∷ []} r h n = met_one r h n
met_last {ps = p ∷ q ∷ ps} r h n = absurd h

-- what the operands of a form are, where they are read, and the name of its instruction
pub record Coded (sh : Shape) (ps : List Piece) (b : Body) : Type 0 where
  pub code : Instr
  pub fixup : Option Fixup
  pub body_is : body.Code code fixup ≡ b
  pub operands : AreOperands ps code fixup
  pub named : (name : List ℕ) → IsNameOf sh name → name ≡ operation_name code

coded : (sh : Shape) (ps : List Piece) (b : Body) (i : Instr) (f : Option Fixup) → ((name : List ℕ) → IsNameOf sh name → name ≡ operation_name i) → AreOperands ps i f → body.Code i f ≡ b → Coded sh ps b
coded sh ps b i f n h k = record { code = i; fixup = f; body_is = k; operands = h; named = n }

either_coded : (i : ImmOp) (r : RegOp) (d s1 : Reg) (ps qs rest : List Piece) (x : Operand) (b : Body) → Behind d ps qs → Behind s1 qs rest → IsOperandOf rest x → either_body i r d s1 x ≡ b → Coded (shape.Either i r) ps b
either_coded i r d s1 ps qs rest (operand.Register s2) b u v h k = coded (shape.Either i r) ps b (instr.Regs r d s1 s2) None (λ n e. ap (λ (x : List ℕ × List ℕ). x.1) e) (registers u v h) k
either_coded i r d s1 ps qs rest (operand.Immediate x) b u v h k = coded (shape.Either i r) ps b (instr.Imm i d s1 x.imm) x.fixup (λ n e. ap (λ (x : List ℕ × List ℕ). x.0) e) (immediate u v h) k

memory_coded : (op : MemOp) (d s1 : Reg) (ps qs : List Piece) (p : Piece) (rest : List Piece) (x : Index) (b : Body) → Behind d ps qs → qs ≡ p ∷ rest → IsRegister s1 p → IsIndexOf rest x → memory_body op d s1 x ≡ b → Coded (shape.Memory op) ps b
memory_coded op d s1 ps qs p rest (index.Scaled s2) b u t r h k = coded (shape.Memory op) ps b (instr.MemReg op d s1 s2 true false) None (λ n e. e) (scaled (subst (Behind d ps) t u) r h) k
memory_coded op d s1 ps qs p rest (index.Offset (operand.Register s2)) b u t r h k =
    coded (shape.Memory op) ps b (instr.MemReg op d s1 s2 false false) None (λ n e. e)
    (plain_index u (record { operand = p; comma = h.0; tokens = t ∙ ap (λ (xs : List Piece). p ∷ xs) h.2; register = r; parted = h.3 }) h.4) k
memory_coded op d s1 ps qs p rest (index.Offset (operand.Immediate x)) b u t r h k =
    coded (shape.Memory op) ps b (instr.MemImm op d s1 x.imm) x.fixup (λ n e. e)
    (offset u (record { operand = p; comma = h.0; tokens = t ∙ ap (λ (xs : List Piece). p ∷ xs) h.2; register = r; parted = h.3 }) h.4) k

user_coded : (op : MemOp) (d s1 s2 : Reg) (t : Bool) (ps qs : List Piece) (p : Piece) (rest : List Piece) (b : Body) → Behind d ps qs → qs ≡ p ∷ rest → IsRegister s1 p → UserIndex rest s2 t → body.Code (instr.MemReg op d s1 s2 t true) None ≡ b → Coded (shape.UserMemory op) ps b
user_coded op d s1 s2 true ps qs p rest b u t r h k = coded (shape.UserMemory op) ps b (instr.MemReg op d s1 s2 true true) None (λ n e. e) (scaled (subst (Behind d ps) t u) r h) k
user_coded op d s1 s2 false ps qs p rest b u t r h k =
    coded (shape.UserMemory op) ps b (instr.MemReg op d s1 s2 false true) None (λ n e. e)
    (plain_index u (record { operand = p; comma = h.0; tokens = t ∙ ap (λ (xs : List Piece). p ∷ xs) h.2; register = r; parted = h.3 }) h.4) k

bits_coded : (op : BitOp) (d s1 : Reg) (ps qs rest : List Piece) (x : Field) (b : Body) → Behind d ps qs → Behind s1 qs rest → IsFieldOf (most_width op) rest x → bits_body op d s1 x ≡ b → Coded (shape.Bits op) ps b
bits_coded op d s1 ps qs rest (field.Register s2) b u v h k = coded (shape.Bits op) ps b (instr.BitReg op d s1 s2) None (λ n e. e) (register_field u v h) k
bits_coded op d s1 ps qs rest (field.Literal width off) b u v h k =
    coded (shape.Bits op) ps b (instr.BitLit op d s1 width off) None (λ n e. e) (literal u v h) k

bounds_coded : (s1 : Reg) (ps rest : List Piece) (p : Piece) (x : Bound) (b : Body) → Behind s1 ps rest → rest ≡ p ∷ [] → IsBoundOf x p → bounds_body s1 x ≡ b → Coded shape.Bounds ps b
bounds_coded s1 ps rest p (bound.Register s2) b u t h k = coded shape.Bounds ps b (instr.BoundReg s1 s2) None (λ n e. e) (bound_register (subst (Behind s1 ps) t u) h) k
bounds_coded s1 ps rest p (bound.Number n) b u t h k = coded shape.Bounds ps b (instr.BoundImm s1 n) None (λ n e. e) (bound_number (subst (Behind s1 ps) t u) h.0 h.1) k

at_tokens : (sh : Shape) (ps qs : List Piece) (b : Body) → ps ≡ qs → Coded sh qs b → Coded sh ps b
at_tokens sh ps qs b t h = subst (λ (xs : List Piece). Coded sh xs b) (sym t) h

-- each form

pub operands_met : (sh : Shape) (ps : List Piece) (b : Body) → Meets (form_of sh) ps b → Coded sh ps b
unfolding form_of
operands_met (shape.Either i r) ps b h = let u = behind_met h in let v = behind_met u.3 in let x = v.3 in either_coded i r u.0 v.0 ps u.1 v.1 x.0 b u.2 v.2 x.1 x.2
operands_met (shape.Immediate i) ps b h =
    let u = behind_met h in let v = behind_met u.3 in let x = v.3 in coded (shape.Immediate i) ps b (instr.Imm i u.0 v.0 x.0.imm) x.0.fixup (λ n e. e) (immediate u.2 v.2 x.1) x.2
operands_met (shape.Registers r) ps b h =
    let u = behind_met h in let v = behind_met u.3 in let x = last_met v.3 in coded (shape.Registers r) ps b (instr.Regs r u.0 v.0 x.0) None (λ n e. e) (registers u.2 v.2 x.1) x.2
operands_met (shape.Memory op) ps b h =
    let u = behind_met h in let v = u.3 in let x = v.next in memory_coded op u.0 v.value ps u.1 v.piece v.rest x.0 b u.2 v.tokens v.is x.1 x.2
operands_met (shape.UserMemory op) ps b h =
    let u = behind_met h in let v = u.3 in let x = v.next in user_coded op u.0 v.value x.0.0 x.0.1 ps u.1 v.piece v.rest b u.2 v.tokens v.is x.1 x.2
operands_met (shape.Address size) ps b h =
    let u = behind_met h in let v = u.3 in let x = v.next in coded (shape.Address size) ps b (instr.Lda size u.0 v.value x.0) None (λ n e. e) (address (subst (Behind u.0 ps) v.tokens u.2) v.is x.1) x.2
operands_met (shape.Bits op) ps b h = let u = behind_met h in let v = behind_met u.3 in let x = v.3 in bits_coded op u.0 v.0 ps u.1 v.1 x.0 b u.2 v.2 x.1 x.2
operands_met (shape.Find ones) ps b h = let u = behind_met h in let x = last_met u.3 in coded (shape.Find ones) ps b (instr.Find ones u.0 x.0) None (λ n e. e) (find u.2 x.1) x.2
operands_met (shape.Branch link delayed) ps b h = coded (shape.Branch link delayed) ps b (instr.Branch link delayed h.0.words) h.0.fixup (λ n e. e) (branch h.1) h.2
operands_met (shape.BranchBit on delayed) ps b h =
    let f = first_met h in let v = behind_met f.next in let g = v.3 in
    at_tokens (shape.BranchBit on delayed) ps (f.piece ∷ f.comma ∷ f.rest) b f.tokens
    (coded (shape.BranchBit on delayed) (f.piece ∷ f.comma ∷ f.rest) b (instr.BranchBit on delayed f.value v.0 g.0.words) g.0.fixup (λ n e. e) (branch_bit f.is f.parted v.2 g.1) g.2)
operands_met (shape.BranchCond delayed) ps b h =
    let f = first_met h in let v = behind_met f.next in let g = v.3 in
    at_tokens (shape.BranchCond delayed) ps (f.piece ∷ f.comma ∷ f.rest) b f.tokens
    (coded (shape.BranchCond delayed) (f.piece ∷ f.comma ∷ f.rest) b (instr.BranchCond delayed f.value v.0 g.0.words) g.0.fixup (λ n e. e) (branch_condition f.is f.parted v.2 g.1) g.2)
operands_met (shape.Jump link delayed) ps b h = let x = last_met h in coded (shape.Jump link delayed) ps b (instr.Jump link delayed x.0) None (λ n e. e) (jump x.1) x.2
operands_met (shape.TrapBit on) ps b h =
    let f = first_met h in let v = behind_met f.next in let n = only_met v.3 in let l = n.3.1 in
    at_tokens (shape.TrapBit on) ps (f.piece ∷ f.comma ∷ f.rest) b f.tokens
    (coded (shape.TrapBit on) (f.piece ∷ f.comma ∷ f.rest) b (instr.TrapBit on f.value v.0 n.0) None (λ n e. e) (trap_bit f.is f.parted (subst (Behind v.0 f.rest) n.2 v.2) n.3.0 (omega arith)) n.4)
operands_met shape.TrapCond ps b h =
    let f = first_met h in let v = behind_met f.next in let n = only_met v.3 in let l = n.3.1 in
    at_tokens shape.TrapCond ps (f.piece ∷ f.comma ∷ f.rest) b f.tokens
    (coded shape.TrapCond (f.piece ∷ f.comma ∷ f.rest) b (instr.TrapCond f.value v.0 n.0) None (λ n e. e) (trap_condition f.is f.parted (subst (Behind v.0 f.rest) n.2 v.2) n.3.0 (omega arith)) n.4)
operands_met shape.Bounds ps b h = let u = behind_met h in let x = only_met u.3 in bounds_coded u.0 ps u.1 x.1 x.0 b u.2 x.2 x.3 x.4
operands_met shape.Return ps b h = at_tokens shape.Return ps [] b h.0 (coded shape.Return [] b instr.Rte None (λ n e. e) return h.1)
operands_met (shape.Ldcr float) ps b h =
    let u = behind_met h in let n = only_met u.3 in coded (shape.Ldcr float) ps b (instr.Ldcr u.0 n.0 float) None (λ n e. e) (control_load (subst (Behind u.0 ps) n.2 u.2) n.3) n.4
operands_met (shape.Stcr float) ps b h =
    let u = behind_met h in let n = only_met u.3 in coded (shape.Stcr float) ps b (instr.Stcr u.0 n.0 float) None (λ n e. e) (control_store (subst (Behind u.0 ps) n.2 u.2) n.3) n.4
operands_met (shape.Xcr float) ps b h =
    let u = behind_met h in let v = behind_met u.3 in let n = only_met v.3 in
    coded (shape.Xcr float) ps b (instr.Xcr u.0 v.0 n.0 float) None (λ n e. e) (control_exchange u.2 (subst (Behind v.0 u.1) n.2 v.2) n.3) n.4

-- and the other way round

met_at : {Next : Reg → List Piece → Type 0} {d : Reg} {ps rest : List Piece} (w : Behind d ps rest) → Next d (w.comma ∷ rest) → Then Reg IsRegister Next ps
met_at {d = d} {rest = rest} w n = record { value = d; piece = w.operand; rest = w.comma ∷ rest; tokens = w.tokens; is = w.register; next = n }

met_bound : {Next : Bound → List Piece → Type 0} {ps : List Piece} (r : Reg) → IsLast r ps → Next (bound.Register r) [] → Then Bound IsBoundOf Next ps
met_bound {ps = []} r h n = absurd h
met_bound {ps = p ∷ []} r h n = met_one (bound.Register r) h n
met_bound {ps = p ∷ q ∷ ps} r h n = absurd h

-- an operation's name is that of a mnemonic, whose form is met
pub record MetBy (ps : List Piece) (i : Instr) (f : Option Fixup) : Type 0 where
  pub mnemonic : Mnemonic
  pub spelled : text_of mnemonic ≡ operation_name i
  pub meets : Meets (form_of (shape_of mnemonic)) ps (body.Code i f)

met_by : {ps : List Piece} {i : Instr} {f : Option Fixup} {sh : Shape} → Spelled (operation_name i) sh → Meets (form_of sh) ps (body.Code i f) → MetBy ps i f
met_by {ps = ps} {i = i} {f = f} n h = record { mnemonic = n.mnemonic; spelled = n.text; meets = subst (λ (s : Shape). Meets (form_of s) ps (body.Code i f)) (sym n.shape) h }

imm_met : (op : ImmOp) (d s1 : Reg) (ps qs rest : List Piece) (imm : ℕ) (fixup : Option Fixup) → Behind d ps qs → Behind s1 qs rest → IsImmediate rest imm fixup → MetBy ps (instr.Imm op d s1 imm) fixup
unfolding form_of
imm_met op d s1 ps qs rest imm fixup u v h =
    let x : Immediate = record { imm = imm; fixup = fixup } in
    elim (imm_spelled op) [
      | inl n ↦ met_by n.1 (met_behind u (met_behind v (operand.Immediate x, h, refl)))
      | inr n ↦ met_by n (met_behind u (met_behind v (x, h, refl)))
    ]

regs_met : (op : RegOp) (d s1 s2 : Reg) (ps qs rest : List Piece) → Behind d ps qs → Behind s1 qs rest → IsLast s2 rest → MetBy ps (instr.Regs op d s1 s2) None
unfolding form_of
regs_met op d s1 s2 ps qs rest u v h = elim (reg_spelled op) [
  | inl n ↦ met_by n.1 (met_behind u (met_behind v (operand.Register s2, h, refl)))
  | inr n ↦ met_by n (met_behind u (met_behind v (met_last s2 h (refl, refl))))
]

index_met : (op : MemOp) (usr : Bool) (d s1 s2 : Reg) (ps qs rest : List Piece) → Behind d ps qs → Behind s1 qs rest → IsLast s2 rest → MetBy ps (instr.MemReg op d s1 s2 false usr) None
unfolding form_of
index_met op true d s1 s2 ps qs rest u v h = met_by (user_spelled op) (met_behind u (met_at v ((s2, false), (v.comma, rest, refl, v.parted, h), refl)))
index_met op false d s1 s2 ps qs rest u v h = met_by (mem_spelled op) (met_behind u (met_at v (index.Offset (operand.Register s2), (v.comma, rest, refl, v.parted, h), refl)))

scaled_met : (op : MemOp) (usr : Bool) (d s1 s2 : Reg) (ps rest : List Piece) (p : Piece) → Behind d ps (p ∷ rest) → IsRegister s1 p → IsScaled s2 rest → MetBy ps (instr.MemReg op d s1 s2 true usr) None
unfolding form_of
scaled_met op true d s1 s2 ps rest p u r h = met_by (user_spelled op) (met_behind u (met_one s1 r ((s2, true), h, refl)))
scaled_met op false d s1 s2 ps rest p u r h = met_by (mem_spelled op) (met_behind u (met_one s1 r (index.Scaled s2, h, refl)))

pub met_operands : (ps : List Piece) (i : Instr) (f : Option Fixup) → AreOperands ps i f → MetBy ps i f
unfolding form_of
met_operands ps i f (immediate {op = op} {d = d} {s1 = s1} {qs = qs} {rest = rest} {imm = imm} {fixup = fixup} u v h) = imm_met op d s1 ps qs rest imm fixup u v h
met_operands ps i f (registers {op = op} {d = d} {s1 = s1} {s2 = s2} {qs = qs} {rest = rest} u v h) = regs_met op d s1 s2 ps qs rest u v h
met_operands ps i f (offset {op = op} {rest = rest} {imm = imm} {fixup = fixup} u v h) =
    met_by (mem_spelled op) (met_behind u (met_at v (index.Offset (operand.Immediate (record { imm = imm; fixup = fixup })), (v.comma, rest, refl, v.parted, h), refl)))
met_operands ps i f (plain_index {op = op} {usr = usr} {d = d} {s1 = s1} {s2 = s2} {qs = qs} {rest = rest} u v h) = index_met op usr d s1 s2 ps qs rest u v h
met_operands ps i f (scaled {op = op} {usr = usr} {d = d} {s1 = s1} {s2 = s2} {rest = rest} {p = p} u r h) = scaled_met op usr d s1 s2 ps rest p u r h
met_operands ps i f (address {size = size} {s1 = s1} {s2 = s2} u r h) = met_by (lda_spelled size) (met_behind u (met_one s1 r (s2, h, refl)))
met_operands ps i f (literal {op = op} {width = width} {offset = off} u v h) = met_by (bits_spelled op) (met_behind u (met_behind v (field.Literal width off, h, refl)))
met_operands ps i f (register_field {op = op} {s2 = s2} u v h) = met_by (bits_spelled op) (met_behind u (met_behind v (field.Register s2, h, refl)))
met_operands ps i f (find {ones = ones} {s2 = s2} u h) = met_by (find_spelled ones) (met_behind u (met_last s2 h (refl, refl)))
met_operands ps i f (branch {link = link} {delayed = delayed} {words = words} {fixup = fixup} h) = met_by (branch_spelled link delayed) (record { words = words; fixup = fixup }, h, refl)
met_operands ps i f (branch_bit {set = set} {delayed = delayed} {bit = bit} {words = words} {fixup = fixup} t k v h) =
    met_by (branch_bit_spelled set delayed) (met_first bit t k (met_behind v (record { words = words; fixup = fixup }, h, refl)))
met_operands ps i f (branch_condition {delayed = delayed} {mask = mask} {words = words} {fixup = fixup} t k v h) =
    met_by (branch_cond_spelled delayed) (met_first mask t k (met_behind v (record { words = words; fixup = fixup }, h, refl)))
met_operands ps i f (jump {link = link} {delayed = delayed} {s2 = s2} h) = met_by (jump_spelled link delayed) (met_last s2 h (refl, refl))
met_operands ps i f (trap_bit {set = set} {bit = bit} {vector = vector} t k v n l) =
    met_by (trap_bit_spelled set) (met_first bit t k (met_behind v (met_one vector (n, omega (arith, l)) (refl, refl))))
met_operands ps i f (trap_condition {mask = mask} {vector = vector} t k v n l) =
    met_by tcnd_spelled (met_first mask t k (met_behind v (met_one vector (n, omega (arith, l)) (refl, refl))))
met_operands ps i f (bound_number {imm = imm} u n l) = met_by tbnd_spelled (met_behind u (met_one (bound.Number imm) (n, l) (refl, refl)))
met_operands ps i f (bound_register {s2 = s2} u h) = met_by tbnd_spelled (met_behind u (met_bound s2 h (refl, refl)))
met_operands ps i f return = met_by rte_spelled (refl, refl)
met_operands ps i f (control_load {float = float} {cr = cr} u h) = met_by (ldcr_spelled float) (met_behind u (met_one cr h (refl, refl)))
met_operands ps i f (control_store {float = float} {cr = cr} u h) = met_by (stcr_spelled float) (met_behind u (met_one cr h (refl, refl)))
met_operands ps i f (control_exchange {float = float} {cr = cr} u v h) = met_by (xcr_spelled float) (met_behind u (met_behind v (met_one cr h (refl, refl))))
