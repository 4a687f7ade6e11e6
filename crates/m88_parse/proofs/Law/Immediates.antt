-- The law of immediates, and of what may stand in their place: a register, or the bound of tbnd. Each is walked once.
use Rattle.std.proofs.Common.{◌≡◌, ◌↔◌, ℕ, ◌<◌, Bool, true, false, nat_le, ◌⊎◌, inl, inr, List, [], ◌∷◌, ◌++◌, length, Option, Some, None, Result, Ok, Err, refl, sym, ap, ◌∙◌, arith, subst, if◌then◌else◌, codes, bytes_eq, true≢false}
use Rattle.std.specs.Option.{option_map}
use Rattle.std.proofs.lemmas.Slice.Eq.{bytes_eq-Decides}
use Rattle.m88_base.specs.Reg.{reg_of}
use Rattle.m88_base.specs.declared.reg.Reg.{Reg}
use Rattle.m88_base.specs.declared.fixup.Kind.{Kind}
use Rattle.m88_base.specs.declared.fixup.Kind.TheVariants.{Hi16, Lo16}
use Rattle.m88_base.specs.declared.fixup.Fixup.{Fixup}
use Rattle.m88_parse.specs.declared.fault.ParseFault.{ParseFault}
use Rattle.m88_parse.specs.declared.fault.ParseKind.TheVariants.{NoSuchName, OutOfRange}
use Rattle.m88_parse.specs.declared.unit.Body.{Body}
use Rattle.m88_parse.specs.declared.unit.Value.{Value}
use Rattle.m88_parse.specs.declared.unit.Value.TheVariants.{Number, Symbol}
use Rattle.m88_parse.specs.declared.operand.Immediate.{Immediate}
use Rattle.m88_parse.specs.declared.operand.Operand.{Operand}
use Rattle.m88_parse.specs.declared.operand.Operand.TheVariants as operand
use Rattle.m88_parse.specs.declared.operand.Bound.{Bound}
use Rattle.m88_parse.specs.declared.operand.Bound.TheVariants as bound
use Rattle.m88_parse.specs.Inside.Names.{register_of}
use Rattle.m88_parse.specs.Language.Words.{half_named}
use Rattle.m88_parse.specs.Language.Pieces.{TokenValue, a_name, a_number, a_text, a_mark, Piece}
use Rattle.m88_parse.specs.Inside.State.{ReaderState, past, says_first, is_mark_of, ◌>>=◌}
use Rattle.m88_parse.specs.Inside.Slots.{Read, meaning_or_fault, mark_at, unsigned_on, unsigned_at, signed_at, value_at, register_on, register_at}
use Rattle.m88_parse.specs.Inside.Operands.{half_immediate, half_at, half_on, short_on, immediate_of, immediate_at, register_in, operand_of, operand_at, bound_on, bound_at}
use Rattle.m88_parse.specs.Inside.Grammar.{end_with}
use Rattle.m88_parse.specs.Language.Names.{IsMark, IsNumber, IsNamed, IsRegister}
use Rattle.m88_parse.specs.Language.Operands.{IsValue, IsHalfOf, IsImmediate, short, half, IsLast}
use Rattle.m88_parse.proofs.Law.TestsAndChoices.{chosen, tested, take_then, take_else}
use Rattle.m88_parse.proofs.Law.Names.{some_same, register_is, register_name_again}
use Rattle.m88_parse.proofs.Law.SingleTokens.{st, symbols, mark_says, register_found, own_names, kind_for, IsUpTo, one_number, saying, any, any_is_symbol, gives, OneToken, nothing, by_token, token_gives, token_is, only_if, within, within_is, within_again, mapped, turns, NoName, number_is, text_is, mark_is, no_named}
use Rattle.m88_parse.proofs.Law.Values.{value_start}
use Rattle.m88_parse.proofs.Law.Readings.{Reading, Relation, Then, Several, AfterMark, Last, Ends, Walk, Start, Turn, begun, fault_at, faults_of, law_as, end_start, mark_start, start_as, ended, one_end, mark_unsigned, mark_first, after_marked, Nameless, refused, turn, turn_leads, turn_stops, turn_as, turns_start, names_start}
use Rattle.m88_parse.proofs.Law.LineFaults.Readers.{Goes, Refuses, same_fault}
use Rattle.m88_parse.proofs.Law.LineFaults.Halves.{half_leads}

-- hi16 and lo16

pub half_names : (name : List ℕ) (kind : Kind) → half_named name ≡ Some kind → ((name ≡ codes "hi16") × (kind ≡ Hi16)) ⊎ ((name ≡ codes "lo16") × (kind ≡ Lo16))
unfolding half_named
half_names name kind h =
    elim (chosen (bytes_eq name (codes "hi16")) _ _ _ h) [
      | inl j ↦ inl ((bytes_eq-Decides name (codes "hi16")).0 j.0, sym (some_same j.1))
      | inr j ↦
          elim (chosen (bytes_eq name (codes "lo16")) _ _ _ j.1) [
            | inl k ↦ inr ((bytes_eq-Decides name (codes "lo16")).0 k.0, sym (some_same k.1))
            | inr k ↦ absurd cc
          ]
    ]

half_is_of : (kind : Kind) (v : Value) → (kind ≡ Hi16) ⊎ (kind ≡ Lo16) → IsHalfOf kind v (half_immediate kind v).imm (half_immediate kind v).fixup
half_is_of Hi16 (Number n) h = (refl, refl)
half_is_of Lo16 (Number n) h = (refl, refl)
half_is_of _ (Number n) (inl h) = absurd cc
half_is_of _ (Number n) (inr h) = absurd cc
half_is_of _ (Symbol f) h = (refl, refl)

half_of_is : (kind : Kind) (v : Value) (imm : ℕ) (fixup : Option Fixup) → IsHalfOf kind v imm fixup
    → half_immediate kind v ≡ record { imm = imm; fixup = fixup }
half_of_is Hi16 (Number n) imm fixup h = λ i. record { imm = sym h.0 i; fixup = sym h.1 i }
half_of_is Lo16 (Number n) imm fixup h = λ i. record { imm = sym h.0 i; fixup = sym h.1 i }
half_of_is _ (Number n) imm fixup h = absurd h
half_of_is _ (Symbol f) imm fixup h = λ i. record { imm = sym h.0 i; fixup = sym h.1 i }

kinds_only : (name : List ℕ) (kind : Kind) → half_named name ≡ Some kind → (kind ≡ Hi16) ⊎ (kind ≡ Lo16)
kinds_only name kind h = elim (half_names name kind h) [ inl j ↦ inl j.1 | inr j ↦ inr j.1 ]

abbrev pub IsImmediateOf : List Piece → Immediate → Type 0
IsImmediateOf ps x = IsImmediate ps x.imm x.fixup

-- what stands behind the ( of a half
abbrev Inside : Kind → (Immediate → Body) → Relation Body
Inside kind made ps b =
    (v : Value) × (front : List Piece) × (c : Piece) × (ps ≡ front ++ c ∷ []) × IsValue kind front v × IsMark 41 c × (made (half_immediate kind v) ≡ b)

abbrev half_inside : Kind → (Immediate → Body) → Reading Body
half_inside kind made s = value_at kind s >>= λ (v : Value × ReaderState). mark_at 41 v.1 >>= end_with (made (half_immediate kind v.0))

inside_start : (few line e : ℕ) (kind : Kind) (made : Immediate → Body) → Start few true symbols line e (half_inside kind made) (Inside kind made)
inside_start few line e kind made =
    start_as (half_inside kind made) (Inside kind made) (λ ps. refl)
    (λ ps b. (to ps b, λ w. record { value = w.0; front = w.1; rest = w.2 ∷ []; tokens = w.3; is = w.4; next = (w.2, [], refl, w.5, (refl, w.6)) }))
    (value_start kind (λ v s. mark_at 41 s >>= end_with (made (half_immediate kind v))) Closed (λ v. mark_start 41 refl refl (begun (end_start few line e (made (half_immediate kind v))))) (λ v ps b w. mark_unsigned 41 w.0 ps w.1 w.2 w.3 refl refl))
  where
    Closed : Value → Relation Body
    Closed v ps b = AfterMark 41 (λ qs. Ends made (half_immediate kind v) qs b) ps

    to : (ps : List Piece) (b : Body) → Several Value (IsValue kind) (λ v qs. Closed v qs b) ps → Inside kind made ps b
    to ps b w =
        let n = w.next in
        let same : ps ≡ w.front ++ n.0 ∷ [] = w.tokens ∙ ap (λ (qs : List Piece). w.front ++ qs) (n.2 ∙ ap (λ (qs : List Piece). n.0 ∷ qs) n.4.0) in
        (w.value, w.front, n.0, same, w.is, n.3, n.4.1)

-- an immediate that stands last

abbrev ImmediateEnd : (Immediate → Body) → Relation Body
ImmediateEnd made ps b = Last Immediate IsImmediateOf made ps b

half_met : (made : Immediate → Body) (p : Piece) (ps : List Piece) (b : Body) (text : List ℕ) (imm : ℕ) (fixup : Option Fixup)
    → IsNamed text p → IsImmediate (p ∷ ps) imm fixup → made (record { imm = imm; fixup = fixup }) ≡ b
    → (kind : Kind) × (half_named text ≡ Some kind) × AfterMark 40 (λ qs. Inside kind made qs b) ps
half_met made p ps b text imm fixup h (short n l) w = let y = sym n ∙ h in absurd cc
half_met made p ps b text imm fixup h (half {o = o} {ps = qs} front c name kind v n k a t i d g) w =
    let m = sym h ∙ n in
    let same : text ≡ name = cc in
    (kind, ap half_named same ∙ k, (o, qs, refl, a, (v, front, c, t, i, d, ap made (half_of_is kind v imm fixup g) ∙ w)))

abbrev short_immediate : ℕ → Immediate
short_immediate n = record { imm = n; fixup = None }

abbrev ShortEnd : (Immediate → Body) → Relation Body
ShortEnd made ps b = Then ℕ (IsUpTo 65535) (λ n qs. Ends (λ m. made (short_immediate m)) n qs b) ps

short_met : (made : Immediate → Body) (ps : List Piece) (b : Body) → ShortEnd made ps b → ImmediateEnd made ps b
short_met made ps b w =
    let l = w.is.1 in
    let same : ps ≡ w.piece ∷ [] = w.tokens ∙ ap (λ (qs : List Piece). w.piece ∷ qs) w.next.0 in
    (short_immediate w.value, subst (λ (qs : List Piece). IsImmediate qs w.value None) (sym same) (short w.is.0 (omega (arith, l))), w.next.1)

met_short : (made : Immediate → Body) (ps : List Piece) (b : Body) (imm : ℕ) (fixup : Option Fixup) → Nameless ps → IsImmediate ps imm fixup
    → made (record { imm = imm; fixup = fixup }) ≡ b → ShortEnd made ps b
met_short made ps b imm fixup z (short {p = p} n l) w =
    record { value = imm; piece = p; rest = []; tokens = refl; is = (n, omega (arith, l)); next = (refl, w) }
met_short made ps b imm fixup z (half {h = p} front c name kind v n k a t i d g) w = absurd (no_named p.says name z n)

-- read where a half begins, and by its first token where none does

half_steps : (kind : Kind) (s : ReaderState) (made : Immediate → Body) → ended (half_at kind) made s ≡ (mark_at 40 (past s) >>= half_inside kind made)
unfolding half_at
half_steps kind s made = turns (mark_at 40 (past s)) _ _ _ (λ opened. turns (value_at kind opened) _ _ _ (λ v. turns (mark_at 41 v.1) _ _ _ (λ closed. refl)))

abbrev immediate_by : (Immediate → Body) → ReaderState → Option Kind → Result Body ParseFault
immediate_by made s o = immediate_of s o >>= λ (x : Immediate × ReaderState). end_with (made x.0) x.1

half_taken : (line e : ℕ) (made : Immediate → Body) (p q : Piece) (ps : List Piece) (text : List ℕ) (kind : Kind) → IsNamed text p → half_named text ≡ Some kind
    → is_mark_of 40 (Some q.says) ≡ true → ended immediate_at made (st line e (p ∷ q ∷ ps)) ≡ half_inside kind made (st line e ps)
unfolding immediate_at
half_taken line e made p q ps text kind h n t =
    ap (λ (o : TokenValue). immediate_by made (st line e (p ∷ q ∷ ps)) (half_on (Some o) (Some q.says))) h
    ∙ ap (immediate_by made (st line e (p ∷ q ∷ ps))) (take_then (is_mark_of 40 (Some q.says)) _ _ t ∙ n)
    ∙ half_steps kind (st line e (p ∷ q ∷ ps)) made
    ∙ ap (λ (r : Result ReaderState ParseFault). r >>= half_inside kind made) (take_then (is_mark_of 40 (Some q.says)) _ _ t)

shorter : (line e : ℕ) (made : Immediate → Body) (p : Piece) (ps : List Piece) (m : TokenValue) → p.says ≡ m → half_on (Some m) (says_first ps) ≡ None
    → ended immediate_at made (st line e (p ∷ ps)) ≡ (short_on (st line e (p ∷ ps)) (Some m) >>= λ (x : Immediate × ReaderState). end_with (made x.0) x.1)
unfolding immediate_at
shorter line e made p ps m h n =
    ap (λ (o : TokenValue). immediate_by made (st line e (p ∷ ps)) (half_on (Some o) (says_first ps))) h
    ∙ ap (immediate_by made (st line e (p ∷ ps))) n
    ∙ ap (λ (o : TokenValue). short_on (st line e (p ∷ ps)) (Some o) >>= λ (x : Immediate × ReaderState). end_with (made x.0) x.1) h

no_half_on : (text : List ℕ) (t : Bool) → half_named text ≡ None → (if t then half_named text else None) ≡ None
no_half_on text true n = n
no_half_on text false n = refl

unknown : (line e : ℕ) (made : Immediate → Body) (p : Piece) (text : List ℕ) → IsNamed text p → half_named text ≡ None → (ps : List Piece)
    → ended immediate_at made (st line e (p ∷ ps)) ≡ fault_at line p NoSuchName
unknown line e made p text h n ps = shorter line e made p ps (a_name text) h (no_half_on text (is_mark_of 40 (says_first ps)) n)

number_step : (made : Immediate → Body) (s : ReaderState) (f : ParseFault) (n : ℕ) (t : Bool)
    → ((if t then Ok (short_immediate n, s) else Err f) >>= λ (x : Immediate × ReaderState). end_with (made x.0) x.1)
    ≡ ((if t then Ok (n, s) else Err f) >>= λ (x : ℕ × ReaderState). end_with (made (short_immediate x.0)) x.1)
number_step made s f n true = refl
number_step made s f n false = refl

-- each immediate, walked once

half_turn : (few line e : ℕ) (made : Immediate → Body) (p : Piece) (text : List ℕ) (kind : Kind) → IsNamed text p → half_named text ≡ Some kind
    → Turn few true own_names line e (ended immediate_at made) (ImmediateEnd made) p
half_turn few line e made p text kind h n = record {
  law = λ ps b l. elim (tested (is_mark_of 40 (says_first ps))) [
    | inl t ↦ opened ps b t l
    | inr t ↦ (λ x. let y = sym (alone ps t) ∙ x in absurd cc, λ w. absurd (unopened ps b t w))
  ];
  each = inl (half_leads few true line e (faults_of line e (ended immediate_at made)) (faults_of line e (half_inside kind made)) p text kind h n
      (λ q ps t. same_fault (half_taken line e made p q ps text kind h n t)) (λ ps t. same_fault (alone ps t)) go.faults);
}
  where
    go : Walk few line e (half_inside kind made) (Inside kind made)
    go = begun (inside_start few line e kind made)

    alone : (ps : List Piece) → is_mark_of 40 (says_first ps) ≡ false → ended immediate_at made (st line e (p ∷ ps)) ≡ fault_at line p NoSuchName
    alone ps t = shorter line e made p ps (a_name text) h (take_else (is_mark_of 40 (says_first ps)) _ _ t)

    met : (ps : List Piece) (b : Body) → ImmediateEnd made (p ∷ ps) b → (k : Kind) × (half_named text ≡ Some k) × AfterMark 40 (λ qs. Inside k made qs b) ps
    met ps b w = half_met made p ps b text w.0.imm w.0.fixup h w.1 w.2

    unopened : (ps : List Piece) (b : Body) → is_mark_of 40 (says_first ps) ≡ false → ImmediateEnd made (p ∷ ps) b → ⊥
    unopened ps b t w = let m = met ps b w in true≢false (sym (after_marked 40 (λ qs. Inside m.0 made qs b) ps m.2) ∙ t)

    to : (q : Piece) (ps : List Piece) (b : Body) → IsMark 40 q → Inside kind made ps b → ImmediateEnd made (p ∷ q ∷ ps) b
    to q ps b o w = (half_immediate kind w.0, half w.1 w.2 text kind w.0 h n o w.3 w.4 w.5 (half_is_of kind w.0 (kinds_only text kind n)), w.6)

    from : (q : Piece) (ps : List Piece) (b : Body) → ImmediateEnd made (p ∷ q ∷ ps) b → Inside kind made ps b
    from q ps b w =
        let m = met (q ∷ ps) b w in
        subst (λ (k : Kind). Inside k made ps b) (some_same (sym m.1 ∙ n)) (mark_first 40 (λ qs. Inside m.0 made qs b) q ps m.2).1

    opened : (ps : List Piece) (b : Body) → is_mark_of 40 (says_first ps) ≡ true → length ps < few
        → (ended immediate_at made (st line e (p ∷ ps)) ≡ Ok b) ↔ ImmediateEnd made (p ∷ ps) b
    opened [] b t l = absurd cc
    opened (q ∷ ps) b t l =
        law_as (half_taken line e made p q ps text kind h n t) (to q ps b (mark_says 40 q.says t), from q ps b) (go.law ps b (omega (arith, l)))

pub immediate_start : (few line e : ℕ) (made : Immediate → Body) → Start few true own_names line e (ended immediate_at made) (ImmediateEnd made)
unfolding immediate_at half_at value_at signed_at half_named unsigned_at
immediate_start few line e made =
    names_start (ended immediate_at made) (ImmediateEnd made)
    ((hi16, codes "hi16", refl, hi16_goes), (any, codes "x", any_is_symbol, λ ps x. refused (unknown line e made any (codes "x") any_is_symbol.0 refl ps) x))
    (hi16 ∷ hi16_goes.0, hi16_goes.1) (λ p text h. by_name p text h (half_named text) refl) plain refl
    (λ ps b z. (short_met made ps b, λ w. met_short made ps b w.0.imm w.0.fixup z w.1 w.2)) (one_end (one_number 65535 line e) (λ n. made (short_immediate n)))
  where
    hi16 : Piece
    hi16 = saying (a_name (codes "hi16"))

    hi16_goes : Goes (λ ps. faults_of line e (ended immediate_at made) (hi16 ∷ ps))
    hi16_goes = (saying (a_mark 40) ∷ saying (a_number 0) ∷ saying (a_mark 41) ∷ [], refl)

    by_name : (p : Piece) (text : List ℕ) → IsNamed text p → (o : Option Kind) → half_named text ≡ o
        → Turn few true own_names line e (ended immediate_at made) (ImmediateEnd made) p
    by_name p text h (Some kind) n = half_turn few line e made p text kind h n
    by_name p text h None n =
        turn_stops (ended immediate_at made) (ImmediateEnd made) p
        (λ ps. unknown line e made p text h n ps ∙ ap (λ (m : TokenValue). fault_at line p (kind_for true own_names m)) (sym h))
        (λ ps b w. let m = half_met made p ps b text w.0.imm w.0.fixup h w.1 w.2 in let y : ◌≡◌ {A = Option Kind} (Some m.0) None = sym m.1 ∙ n in cc)

    number_on : (p : Piece) (ps : List Piece) → TokenValue → Result Body ParseFault
    number_on p ps m = unsigned_on 65535 (st line e (p ∷ ps)) (Some m) >>= λ (x : ℕ × ReaderState). end_with (made (short_immediate x.0)) x.1

    plain : (p : Piece) (ps : List Piece) (m : TokenValue) → p.says ≡ m → NoName m
        → ended immediate_at made (st line e (p ∷ ps)) ≡ ended (unsigned_at 65535) (λ n. made (short_immediate n)) (st line e (p ∷ ps))
    plain p ps m h (number_is {n = n}) = shorter line e made p ps m h refl ∙ number_step made (st line e ps) _ n (nat_le n 65535) ∙ ap (number_on p ps) (sym h)
    plain p ps m h text_is = shorter line e made p ps m h refl ∙ ap (number_on p ps) (sym h)
    plain p ps m h mark_is = shorter line e made p ps m h refl ∙ ap (number_on p ps) (sym h)

-- a register or an immediate

abbrev pub IsOperandOf : List Piece → Operand → Type 0
IsOperandOf ps (operand.Register r) = IsLast r ps
IsOperandOf ps (operand.Immediate x) = IsImmediate ps x.imm x.fixup

half_no_register : (name : List ℕ) (kind : Kind) → half_named name ≡ Some kind → register_of name ≡ None
unfolding register_of
half_no_register name kind h = elim (half_names name kind h) [ inl j ↦ ap register_of j.0 | inr j ↦ ap register_of j.0 ]

no_register : (ps : List Piece) (imm : ℕ) (fixup : Option Fixup) → IsImmediate ps imm fixup → register_in (says_first ps) ≡ None
no_register ps imm fixup (short {p = p} h l) = ap (λ (m : TokenValue). register_in (Some m)) h
no_register ps imm fixup (half inside c name kind v n k a t b d h) =
    ap (λ (m : TokenValue). register_in (Some m)) n ∙ ap (option_map reg_of) (half_no_register name kind k)

register_again : (ps : List Piece) (r : Reg) → IsLast r ps → register_in (says_first ps) ≡ Some r
register_again [] r h = absurd h
register_again (p ∷ []) r h =
    ap (λ (m : TokenValue). register_in (Some m)) h.2 ∙ ap (option_map reg_of) (register_name_again h.0 h.1 h.3)
    ∙ ap (λ (v : Reg). let y : Option Reg = Some v in y) (sym h.4)
register_again (p ∷ q ∷ ps) r h = absurd h

named_register : (p : Piece) (r : Reg) (m : TokenValue) → p.says ≡ m → register_in (Some m) ≡ Some r → IsRegister r p
named_register p r (a_name text) h k = register_found p text r h (register_of text) refl k
named_register p r (a_number n) h k = absurd cc
named_register p r (a_text bytes) h k = absurd cc
named_register p r (a_mark m) h k = absurd cc

pub operand_start : (few line e : ℕ) (made : Operand → Body) → Start few true own_names line e (ended operand_at made) (Last Operand IsOperandOf made)
unfolding operand_at register_of half_named
operand_start few line e made =
    turns_start all All (immediate_start few line e immediates)
    ((r0, codes "r0", refl, ([], refl)), (any, codes "x", any_is_symbol, no_operand))
    (r0 ∷ [], refl) (λ p n i ps. by_immediate (p ∷ ps) (says p (a_number n) i)) (λ p i ps. by_immediate (p ∷ ps) (says p (a_mark 40) i)) (by_immediate [] refl)
    (λ b. alike [] b refl)
    (λ p. by_register p (register_in (Some p.says)) refl)
  where
    all : Reading Body
    all s = ended operand_at made s

    All : Relation Body
    All ps b = Last Operand IsOperandOf made ps b

    immediates : Immediate → Body
    immediates x = made (operand.Immediate x)

    r0 : Piece
    r0 = saying (a_name (codes "r0"))

    says : (p : Piece) (m : TokenValue) → p.says ≡ m → register_in (Some p.says) ≡ register_in (Some m)
    says p m h = ap (λ (o : TokenValue). register_in (Some o)) h

    by_immediate : (ps : List Piece) → register_in (says_first ps) ≡ None → all (st line e ps) ≡ ended immediate_at immediates (st line e ps)
    by_immediate ps h =
        ap (λ (o : Option Reg). operand_of (st line e ps) o >>= λ (x : Operand × ReaderState). end_with (made x.0) x.1) h
        ∙ mapped Immediate Body Operand (immediate_at (st line e ps)) (λ x. operand.Immediate x) (λ x. end_with (made x))

    no_operand : Refuses (faults_of line e all) any
    no_operand ps x =
        refused (by_immediate (any ∷ ps) (says any (a_name (codes "x")) any_is_symbol.0) ∙ unknown line e immediates any (codes "x") any_is_symbol.0 refl ps) x

    alike : (ps : List Piece) (b : Body) → register_in (says_first ps) ≡ None → ImmediateEnd immediates ps b ↔ All ps b
    alike ps b h = (λ w. (operand.Immediate w.0, w.1, w.2), λ w. from w.0 w.1 w.2)
      where
        from : (x : Operand) → IsOperandOf ps x → made x ≡ b → ImmediateEnd immediates ps b
        from (operand.Immediate x) i k = (x, i, k)
        from (operand.Register r) i k = let y : ◌≡◌ {A = Option Reg} None (Some r) = sym h ∙ register_again ps r i in absurd cc

    last : (p : Piece) (ps : List Piece) (b : Body) (r : Reg) (x : Operand) → register_in (Some p.says) ≡ Some r → IsOperandOf (p ∷ ps) x → made x ≡ b
        → (ps ≡ []) × (made (operand.Register r) ≡ b)
    last p ps b r (operand.Immediate x) h i k = let y : ◌≡◌ {A = Option Reg} (Some r) None = sym h ∙ no_register (p ∷ ps) x.imm x.fixup i in absurd cc
    last p [] b r (operand.Register s) h i k = (refl, ap (λ (v : Reg). made (operand.Register v)) (some_same (sym h ∙ register_again (p ∷ []) s i)) ∙ k)
    last p (q ∷ ps) b r (operand.Register s) h i k = absurd i

    by_register : (p : Piece) (o : Option Reg) → register_in (Some p.says) ≡ o → Turn few true own_names line e all All p
    by_register p (Some r) h =
        let is : IsRegister r p = named_register p r p.says refl h in
        turn_leads all All p (λ ps. ap (λ (o : Option Reg). operand_of (st line e (p ∷ ps)) o >>= λ (x : Operand × ReaderState). end_with (made x.0) x.1) h)
        (λ ps b. (λ k. (operand.Register r, subst (λ (qs : List Piece). IsLast r (p ∷ qs)) (sym k.0) is, k.1), λ w. last p ps b r w.0 h w.1 w.2))
        (inl (λ m. let y : ◌≡◌ {A = Option Reg} (Some r) None = sym h ∙ says p (a_mark 45) m in cc)) (begun (end_start few line e (made (operand.Register r))))
    by_register p None h = turn_as all All p (λ ps. by_immediate (p ∷ ps) h) (λ ps b. alike (p ∷ ps) b h) refl (turn (immediate_start few line e immediates) p)

-- the bound of tbnd

abbrev pub IsBoundOf : Bound → Piece → Type 0
IsBoundOf (bound.Register r) p = IsRegister r p
IsBoundOf (bound.Number n) p = IsNumber n p × (n < 65536)

abbrev bound_on_name : List ℕ → Option Bound
bound_on_name text = option_map (λ (r : Reg). bound.Register r) (option_map reg_of (register_of text))

abbrev bound_on_number : ℕ → Option Bound
bound_on_number n = option_map (λ (k : ℕ). bound.Number k) (within 65535 n)

abbrev bound_by : TokenValue → Option Bound
bound_by = by_token bound_on_name bound_on_number nothing

bound_name : (line e : ℕ) (p : Piece) (ps : List Piece) (o : Option ℕ)
    → (meaning_or_fault (st line e (p ∷ ps)) (option_map reg_of o) >>= λ (r : Reg × ReaderState). let y : Read Bound = Ok (bound.Register r.0, r.1) in y)
    ≡ gives line e p ps NoSuchName (option_map (λ (r : Reg). bound.Register r) (option_map reg_of o))
bound_name line e p ps (Some n) = refl
bound_name line e p ps None = refl

bound_number : (line e n : ℕ) (p : Piece) (ps : List Piece) (t : Bool)
    → (if t then Ok (bound.Number n, st line e ps) else Err (record { line = line; col = p.col; kind = OutOfRange }))
    ≡ gives line e p ps OutOfRange (option_map (λ (k : ℕ). bound.Number k) (only_if t n))
bound_number line e n p ps true = refl
bound_number line e n p ps false = refl

register_bounds : (p : Piece) (name : List ℕ) (x : Bound) → IsNamed name p → (o : Option ℕ) → register_of name ≡ o
    → option_map (λ (r : Reg). bound.Register r) (option_map reg_of o) ≡ Some x → IsBoundOf x p
register_bounds p name x i (Some n) j k = subst (λ (y : Bound). IsBoundOf y p) (some_same k) (name, n, i, register_is name n j, refl)
register_bounds p name x i None j k = absurd cc

number_bounds : (p : Piece) (n : ℕ) (x : Bound) → IsNumber n p → (o : Option ℕ) → within 65535 n ≡ o → option_map (λ (k : ℕ). bound.Number k) o ≡ Some x
    → IsBoundOf x p
number_bounds p n x i (Some m) j k =
    let w = within_is 65535 n m j in subst (λ (y : Bound). IsBoundOf y p) (some_same k) (i ∙ ap a_number w.0, omega (arith, w.1))
number_bounds p n x i None j k = absurd cc

bound_given : (p : Piece) (x : Bound) → IsBoundOf x p → bound_by p.says ≡ Some x
bound_given p (bound.Register r) h =
    ap bound_by h.2 ∙ ap (λ (o : Option ℕ). option_map (λ (r : Reg). bound.Register r) (option_map reg_of o)) (register_name_again h.0 h.1 h.3)
    ∙ ap (λ (r : Reg). let y : Option Bound = Some (bound.Register r) in y) (sym h.4)
bound_given p (bound.Number n) h = ap bound_by h.0 ∙ ap (option_map (λ (k : ℕ). bound.Number k)) (within_again 65535 n (omega (arith, h.1)))

pub one_bound : (line e : ℕ) → OneToken Bound IsBoundOf true own_names line e bound_at
unfolding bound_at register_at register_of any
one_bound line e = record {
  given = λ p. bound_by p.says;
  empty = refl;
  each =
      λ p ps. token_gives true own_names line e p ps (λ o. bound_on (st line e (p ∷ ps)) (Some o)) bound_by (λ name i. by_name p ps name i)
      (λ n. bound_number line e n p ps (nat_le n 65535)) (λ bytes. refl) (λ m. refl) p.says refl;
  is =
      λ p x. token_is IsBoundOf bound_on_name bound_on_number p x (λ name i. register_bounds p name x i (register_of name) refl)
      (λ n i. number_bounds p n x i (within 65535 n) refl) p.says refl;
  again = bound_given;
  numbers = (saying (a_number 0), 0, bound.Number 0, refl, refl);
  names = ((saying (a_name (codes "r0")), codes "r0", bound.Register (reg_of 0), refl, refl), (any, codes "x", any_is_symbol, refl));
  marks = λ p m w i. ap bound_by i;
  some = (saying (a_number 0), bound.Number 0, refl);
}
  where
    by_name : (p : Piece) (ps : List Piece) (name : List ℕ) → IsNamed name p
        → bound_on (st line e (p ∷ ps)) (Some (a_name name)) ≡ gives line e p ps NoSuchName (bound_on_name name)
    by_name p ps name i =
        ap (λ (m : TokenValue). register_on (st line e (p ∷ ps)) (Some m) >>= λ (r : Reg × ReaderState). let y : Read Bound = Ok (bound.Register r.0, r.1) in y) i ∙ bound_name line e p ps (register_of name)
