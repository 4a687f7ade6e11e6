-- The law of what stands behind a base register and of bit fields, each walked once.
use Rattle.std.proofs.Common.{◌≡◌, ◌↔◌, ℕ, ◌<◌, Bool, true, false, if◌then◌else◌, ◌⊎◌, inl, inr, List, [], ◌∷◌, Some, Result, Ok, refl, sym, ap, ◌∙◌, subst, arith}
use Rattle.m88_base.specs.declared.reg.Reg.{Reg}
use Rattle.m88_parse.specs.declared.fault.ParseFault.{ParseFault}
use Rattle.m88_parse.specs.declared.unit.Body.{Body}
use Rattle.m88_parse.specs.declared.operand.Operand.{Operand}
use Rattle.m88_parse.specs.declared.operand.Index.{Index}
use Rattle.m88_parse.specs.declared.operand.Index.TheVariants as index
use Rattle.m88_parse.specs.declared.operand.Field.{Field}
use Rattle.m88_parse.specs.declared.operand.Field.TheVariants as field
use Rattle.m88_parse.specs.Language.Pieces.{TokenValue, a_name, a_number, a_mark, Piece}
use Rattle.m88_parse.specs.Language.Names.{IsMark, IsNumber, IsRegister}
use Rattle.m88_parse.specs.Language.Operands.{IsScaled, IsLast, IsLiteral}
use Rattle.m88_parse.specs.Inside.State.{ReaderState, is_mark_of, is_next_mark, ◌>>=◌}
use Rattle.m88_parse.specs.Inside.Slots.{Read, mark_at, unsigned_at, register_at}
use Rattle.m88_parse.specs.Inside.Operands.{operand_at, scaled_at, indexed_at, index_at, user_index_at, width_at, literal_at, field_on, field_at}
use Rattle.m88_parse.specs.Inside.Grammar.{end_with}
use Rattle.m88_parse.proofs.Law.TestsAndChoices.{take_then, take_else}
use Rattle.m88_parse.proofs.Law.SingleTokens.{st, no_name, own_names, IsUpTo, one_register, one_number, mapped, turns, NoName, number_is, text_is, mark_is}
use Rattle.m88_parse.proofs.Law.Immediates.{IsOperandOf, operand_start}
use Rattle.m88_parse.proofs.Law.Readings.{Then, AfterMark, AfterComma, Last, Ends, Walk, Start, begun, end_start, mark_start, slot_start, start_as, ended, one_end, closed_end, ClosedEnd, closed_start, marked_other, unnamed, or_start, named_start}

-- a register alone

last_register : (made : Reg → Body) (ps : List Piece) (b : Body) → Then Reg IsRegister (λ r qs. Ends made r qs b) ps → Last Reg (λ qs r. IsLast r qs) made ps b
last_register made ps b w = (w.value, subst (IsLast w.value) (sym (w.tokens ∙ ap (λ (qs : List Piece). w.piece ∷ qs) w.next.0)) w.is, w.next.1)

register_last : (made : Reg → Body) (ps : List Piece) (b : Body) (r : Reg) → IsLast r ps → made r ≡ b → Then Reg IsRegister (λ x qs. Ends made x qs b) ps
register_last made [] b r h k = absurd h
register_last made (p ∷ []) b r h k = record { value = r; piece = p; rest = []; tokens = refl; is = h; next = (refl, k) }
register_last made (p ∷ q ∷ ps) b r h k = absurd h

register_start : (few line e : ℕ) (made : Reg → Body) → Start few false own_names line e (ended register_at made) (Last Reg (λ ps r. IsLast r ps) made)
register_start few line e made = start_as (ended register_at made) (Last Reg (λ ps r. IsLast r ps) made) (λ ps. refl) (λ ps b. (last_register made ps b, λ w. register_last made ps b w.0 w.1 w.2)) (one_end (one_register line e) made)

-- [rS2]

abbrev ScaledEnd : (Reg → Body) → List Piece → Body → Type 0
ScaledEnd made ps b = AfterMark 91 (λ qs. ClosedEnd Reg IsRegister 93 made qs b) ps

scaled_met : (made : Reg → Body) (ps : List Piece) (b : Body) → ScaledEnd made ps b → Last Reg (λ qs r. IsScaled r qs) made ps b
scaled_met made ps b w =
    let t = w.4 in
    let c = t.next in
    let same : ps ≡ w.0 ∷ t.piece ∷ c.0 ∷ [] = w.2 ∙ ap (λ (qs : List Piece). w.0 ∷ qs) (t.tokens ∙ ap (λ (qs : List Piece). t.piece ∷ qs) (c.2 ∙ ap (λ (qs : List Piece). c.0 ∷ qs) c.4.0)) in
    (t.value, subst (IsScaled t.value) (sym same) (w.3, t.is, c.3), c.4.1)

met_scaled : (made : Reg → Body) (ps : List Piece) (b : Body) (r : Reg) → IsScaled r ps → made r ≡ b → ScaledEnd made ps b
met_scaled made [] b r h k = absurd h
met_scaled made (o ∷ []) b r h k = absurd h
met_scaled made (o ∷ p ∷ []) b r h k = absurd h
met_scaled made (o ∷ p ∷ c ∷ []) b r h k = (o, p ∷ c ∷ [], refl, h.0, record { value = r; piece = p; rest = c ∷ []; tokens = refl; is = h.1; next = (c, [], refl, h.2, (refl, k)) })
met_scaled made (o ∷ p ∷ c ∷ q ∷ ps) b r h k = absurd h

scaled_steps : (B : Type 0) (s : ReaderState) (k : Reg → ReaderState → Result B ParseFault) → (scaled_at s >>= λ (z : Reg × ReaderState). k z.0 z.1) ≡ (mark_at 91 s >>= λ (opened : ReaderState). register_at opened >>= λ (v : Reg × ReaderState). mark_at 93 v.1 >>= λ (closed : ReaderState). k v.0 closed)
unfolding scaled_at
scaled_steps B s k = turns (mark_at 91 s) _ _ _ (λ opened. turns (register_at opened) _ _ _ (λ r. turns (mark_at 93 r.1) _ _ _ (λ closed. refl)))

bracket_start : (few line e : ℕ) (made : Reg → Body) → Start few false own_names line e (closed_end register_at 93 made) (ClosedEnd Reg IsRegister 93 made)
bracket_start few line e made = closed_start (one_register line e) 93 made refl refl

pub scaled_start : (few line e : ℕ) (made : Reg → Body) → Start few false no_name line e (ended scaled_at made) (Last Reg (λ qs r. IsScaled r qs) made)
scaled_start few line e made =
    start_as (ended scaled_at made) (Last Reg (λ qs r. IsScaled r qs) made) (λ ps. scaled_steps Body (st line e ps) (λ r. end_with (made r))) (λ ps b. (scaled_met made ps b, λ w. met_scaled made ps b w.0 w.1 w.2)) (mark_start 91 refl refl (begun (bracket_start few line e made)))

-- behind the base register: a scaled register, or a comma and more

abbrev PlainEnd : (X : Type 0) → (List Piece → X → Type 0) → (X → Body) → List Piece → Body → Type 0
PlainEnd X Is made ps b = AfterComma (λ qs. Last X Is made qs b) ps

-- the two ways to say an index
abbrev Indexed : (X C : Type 0) → (List Piece → X → Type 0) → (Reg → C) → (X → C) → List Piece → C → Type 0
Indexed X C Is scaled plain ps y = ((r : Reg) × IsScaled r ps × (scaled r ≡ y)) ⊎ ((x : X) × AfterComma (λ qs. Is qs x) ps × (plain x ≡ y))

indexed_start : (X C : Type 0) (Is : List Piece → X → Type 0) (As : List Piece → C → Type 0) (slot : ReaderState → Read X) (scaled : Reg → C) (plain : X → C) (made : C → Body) (few line e : ℕ)
    → Walk few line e (ended slot (λ x. made (plain x))) (Last X Is (λ x. made (plain x))) → ((ps : List Piece) (y : C) → Indexed X C Is scaled plain ps y ↔ As ps y)
    → Start few false no_name line e (ended (indexed_at slot scaled plain) made) (Last C As made)
indexed_start X C Is As slot scaled plain made few line e go alike =
    start_as all (Last C As made) (λ ps. refl) (λ ps b. (to ps b, λ w. from ps b w.0 ((alike ps w.0).1 w.1) w.2))
    (or_start 91 all refl (inr refl) bracket otherwise refl (begun (bracket_start few line e (λ r. made (scaled r)))) (mark_start 44 refl refl go) (λ p ps b w. marked_other 91 44 p ps w.0 w.1 w.2 w.3 refl))
  where
    all : ReaderState → Result Body ParseFault
    all s = ended (indexed_at slot scaled plain) made s

    comma : ReaderState → Result Body ParseFault
    comma s = mark_at 44 s >>= ended slot (λ x. made (plain x))

    bracket : (p : Piece) (ps : List Piece) → is_mark_of 91 (Some p.says) ≡ true → all (st line e (p ∷ ps)) ≡ closed_end register_at 93 (λ r. made (scaled r)) (st line e ps)
    bracket p ps t =
        ap (λ (r : Read C). r >>= λ (z : C × ReaderState). end_with (made z.0) z.1) (take_then (is_mark_of 91 (Some p.says)) _ _ t)
        ∙ mapped Reg Body C (scaled_at (st line e (p ∷ ps))) scaled (λ z. end_with (made z))
        ∙ scaled_steps Body (st line e (p ∷ ps)) (λ r. end_with (made (scaled r)))
        ∙ ap (λ (r : Result ReaderState ParseFault). r >>= closed_end register_at 93 (λ x. made (scaled x))) (take_then (is_mark_of 91 (Some p.says)) _ _ t)

    otherwise : (p : Piece) (ps : List Piece) → is_mark_of 91 (Some p.says) ≡ false → all (st line e (p ∷ ps)) ≡ comma (st line e (p ∷ ps))
    otherwise p ps t =
        ap (λ (r : Read C). r >>= λ (z : C × ReaderState). end_with (made z.0) z.1) (take_else (is_mark_of 91 (Some p.says)) _ _ t)
        ∙ turns (mark_at 44 (st line e (p ∷ ps))) _ _ _ (λ u. mapped X Body C (slot u) plain (λ z. end_with (made z)))

    to : (ps : List Piece) (b : Body) → ScaledEnd (λ r. made (scaled r)) ps b ⊎ PlainEnd X Is (λ x. made (plain x)) ps b → Last C As made ps b
    to ps b (inl w) = let k = scaled_met (λ r. made (scaled r)) ps b w in (scaled k.0, (alike ps (scaled k.0)).0 (inl (k.0, k.1, refl)), k.2)
    to ps b (inr w) = let v = w.4 in (plain v.0, (alike ps (plain v.0)).0 (inr (v.0, (w.0, w.1, w.2, w.3, v.1), refl)), v.2)

    from : (ps : List Piece) (b : Body) (y : C) → Indexed X C Is scaled plain ps y → made y ≡ b → ScaledEnd (λ r. made (scaled r)) ps b ⊎ PlainEnd X Is (λ x. made (plain x)) ps b
    from ps b y (inl u) k = inl (met_scaled (λ r. made (scaled r)) ps b u.0 u.1 (ap made u.2 ∙ k))
    from ps b y (inr u) k = let c = u.1 in inr (c.0, c.1, c.2, c.3, (u.0, c.4, ap made u.2 ∙ k))

abbrev pub IsIndexOf : List Piece → Index → Type 0
IsIndexOf ps (index.Scaled r) = IsScaled r ps
IsIndexOf ps (index.Offset x) = AfterComma (λ qs. IsOperandOf qs x) ps

pub index_start : (few line e : ℕ) (made : Index → Body) → Start few false no_name line e (ended index_at made) (Last Index IsIndexOf made)
unfolding index_at
index_start few line e made =
    indexed_start Operand Index IsOperandOf IsIndexOf operand_at (λ r. index.Scaled r) (λ x. index.Offset x) made few line e
    (begun (operand_start few line e (λ x. made (index.Offset x)))) (λ ps y. (to ps y, from ps y))
  where
    to : (ps : List Piece) (y : Index) → Indexed Operand Index IsOperandOf (λ r. index.Scaled r) (λ x. index.Offset x) ps y → IsIndexOf ps y
    to ps y (inl u) = subst (IsIndexOf ps) u.2 u.1
    to ps y (inr u) = subst (IsIndexOf ps) u.2 u.1

    from : (ps : List Piece) (y : Index) → IsIndexOf ps y → Indexed Operand Index IsOperandOf (λ r. index.Scaled r) (λ x. index.Offset x) ps y
    from ps (index.Scaled r) h = inl (r, h, refl)
    from ps (index.Offset x) h = inr (x, h, refl)

abbrev pub UserIndex : List Piece → Reg → Bool → Type 0
UserIndex ps r true = IsScaled r ps
UserIndex ps r false = AfterComma (IsLast r) ps

abbrev pub IsUserIndexOf : List Piece → Reg × Bool → Type 0
IsUserIndexOf ps x = UserIndex ps x.0 x.1

pub user_index_start : (few line e : ℕ) (made : Reg × Bool → Body) → Start few false no_name line e (ended user_index_at made) (Last (Reg × Bool) IsUserIndexOf made)
unfolding user_index_at
user_index_start few line e made =
    indexed_start Reg (Reg × Bool) (λ qs r. IsLast r qs) IsUserIndexOf register_at (λ r. (r, true)) (λ r. (r, false)) made few line e (begun (register_start few line e (λ r. made (r, false)))) (λ ps y. (to ps y, from ps y.0 y.1))
  where
    to : (ps : List Piece) (y : Reg × Bool) → Indexed Reg (Reg × Bool) (λ qs r. IsLast r qs) (λ r. (r, true)) (λ r. (r, false)) ps y → IsUserIndexOf ps y
    to ps y (inl u) = subst (IsUserIndexOf ps) u.2 u.1
    to ps y (inr u) = subst (IsUserIndexOf ps) u.2 u.1

    from : (ps : List Piece) (r : Reg) (t : Bool) → UserIndex ps r t → Indexed Reg (Reg × Bool) (λ qs x. IsLast x qs) (λ x. (x, true)) (λ x. (x, false)) ps (r, t)
    from ps r true h = inl (r, h, refl)
    from ps r false h = inr (r, h, refl)

-- W<O>

abbrev OffsetEnd : (ℕ → Body) → List Piece → Body → Type 0
OffsetEnd made ps b = AfterMark 60 (λ qs. ClosedEnd ℕ (IsUpTo 31) 62 made qs b) ps

abbrev after_width : (ℕ → ℕ → Body) → ℕ → ReaderState → Result Body ParseFault
after_width made width s = mark_at 60 s >>= closed_end (unsigned_at 31) 62 (made width)

abbrev LiteralEnd : ℕ → (ℕ → ℕ → Body) → List Piece → Body → Type 0
LiteralEnd most made ps b = OffsetEnd (made 0) ps b ⊎ Then ℕ (IsUpTo most) (λ width qs. OffsetEnd (made width) qs b) ps

literal_steps : (most : ℕ) (s : ReaderState) (made : Field → Body)
    → ended (literal_at most) made s ≡ ((if is_next_mark 60 s then Ok (0, s) else unsigned_at most s) >>= λ (width : ℕ × ReaderState). after_width (λ w o. made (field.Literal w o)) width.0 width.1)
unfolding literal_at width_at
literal_steps most s made =
    turns (if is_next_mark 60 s then Ok (0, s) else unsigned_at most s) _ _ _ (λ width. turns (mark_at 60 width.1) _ _ _ (λ opened. turns (unsigned_at 31 opened) _ _ _ (λ offset. turns (mark_at 62 offset.1) _ _ _ (λ closed. refl))))

literal_start : (most few line e : ℕ) (made : Field → Body) → Start few true no_name line e (ended (literal_at most) made) (LiteralEnd most (λ w o. made (field.Literal w o)))
literal_start most few line e made =
    or_start 60 (ended (literal_at most) made) refl (inl refl) opened numbered (literal_steps most (st line e []) made) (begun (offset 0))
    (slot_start (one_number most line e) (after_width literal) (λ width qs b. OffsetEnd (literal width) qs b) (λ width. begun (mark_start 60 refl refl (begun (offset width))))) no_mark
  where
    literal : ℕ → ℕ → Body
    literal width offset = made (field.Literal width offset)

    number : ReaderState → Result Body ParseFault
    number s = unsigned_at most s >>= λ (width : ℕ × ReaderState). after_width literal width.0 width.1

    offset : (width : ℕ) → Start few true no_name line e (closed_end (unsigned_at 31) 62 (literal width)) (ClosedEnd ℕ (IsUpTo 31) 62 (literal width))
    offset width = closed_start (one_number 31 line e) 62 (literal width) refl refl

    opened : (p : Piece) (ps : List Piece) → is_mark_of 60 (Some p.says) ≡ true → ended (literal_at most) made (st line e (p ∷ ps)) ≡ closed_end (unsigned_at 31) 62 (literal 0) (st line e ps)
    opened p ps t =
        literal_steps most (st line e (p ∷ ps)) made
        ∙ ap (λ (r : Read ℕ). r >>= λ (width : ℕ × ReaderState). after_width literal width.0 width.1) (take_then (is_mark_of 60 (Some p.says)) _ _ t)
        ∙ ap (λ (r : Result ReaderState ParseFault). r >>= closed_end (unsigned_at 31) 62 (literal 0)) (take_then (is_mark_of 60 (Some p.says)) _ _ t)

    numbered : (p : Piece) (ps : List Piece) → is_mark_of 60 (Some p.says) ≡ false → ended (literal_at most) made (st line e (p ∷ ps)) ≡ number (st line e (p ∷ ps))
    numbered p ps t = literal_steps most (st line e (p ∷ ps)) made ∙ ap (λ (r : Read ℕ). r >>= λ (width : ℕ × ReaderState). after_width literal width.0 width.1) (take_else (is_mark_of 60 (Some p.says)) _ _ t)

    no_mark : (p : Piece) (ps : List Piece) (b : Body) → Then ℕ (IsUpTo most) (λ width qs. OffsetEnd (literal width) qs b) (p ∷ ps) → is_mark_of 60 (Some p.says) ≡ false
    no_mark p ps b w =
        let h = w.tokens in
        let same : p ≡ w.piece = cc in
        ap (λ (q : Piece). is_mark_of 60 (Some q.says)) same ∙ ap (λ (m : TokenValue). is_mark_of 60 (Some m)) w.is.0

literal_met : (most : ℕ) (made : ℕ → ℕ → Body) (ps : List Piece) (b : Body) → LiteralEnd most made ps b → (width : ℕ) × (offset : ℕ) × IsLiteral most ps width offset × (made width offset ≡ b)
literal_met most made ps b (inl w) =
    let t = w.4 in
    let c = t.next in
    let l = t.is.1 in
    let same : ps ≡ w.0 ∷ t.piece ∷ c.0 ∷ [] = w.2 ∙ ap (λ (qs : List Piece). w.0 ∷ qs) (t.tokens ∙ ap (λ (qs : List Piece). t.piece ∷ qs) (c.2 ∙ ap (λ (qs : List Piece). c.0 ∷ qs) c.4.0)) in
    (0, t.value, subst (λ (qs : List Piece). IsLiteral most qs 0 t.value) (sym same) (refl, w.3, t.is.0, omega (arith, l), c.3), c.4.1)
literal_met most made ps b (inr v) =
    let w = v.next in
    let t = w.4 in
    let c = t.next in
    let l = t.is.1 in
    let same : ps ≡ v.piece ∷ w.0 ∷ t.piece ∷ c.0 ∷ [] =
    v.tokens ∙ ap (λ (qs : List Piece). v.piece ∷ qs) (w.2 ∙ ap (λ (qs : List Piece). w.0 ∷ qs) (t.tokens ∙ ap (λ (qs : List Piece). t.piece ∷ qs) (c.2 ∙ ap (λ (qs : List Piece). c.0 ∷ qs) c.4.0))) in
    (v.value, t.value, subst (λ (qs : List Piece). IsLiteral most qs v.value t.value) (sym same) (v.is.0, v.is.1, w.3, t.is.0, omega (arith, l), c.3), c.4.1)

offset_met : (made : ℕ → Body) (o p c : Piece) (offset : ℕ) (b : Body) → IsMark 60 o → IsNumber offset p → offset < 32 → IsMark 62 c → made offset ≡ b → OffsetEnd made (o ∷ p ∷ c ∷ []) b
offset_met made o p c offset b h n l k w = (o, p ∷ c ∷ [], refl, h, record { value = offset; piece = p; rest = c ∷ []; tokens = refl; is = (n, omega (arith, l)); next = (c, [], refl, k, (refl, w)) })

met_literal : (most : ℕ) (made : ℕ → ℕ → Body) (ps : List Piece) (b : Body) (width offset : ℕ) → IsLiteral most ps width offset → made width offset ≡ b → LiteralEnd most made ps b
met_literal most made [] b width offset h k = absurd h
met_literal most made (o ∷ []) b width offset h k = absurd h
met_literal most made (o ∷ p ∷ []) b width offset h k = absurd h
met_literal most made (o ∷ p ∷ c ∷ []) b width offset h k = inl (offset_met (made 0) o p c offset b h.1 h.2 h.3 h.4 (ap (λ (w : ℕ). made w offset) (sym h.0) ∙ k))
met_literal most made (w ∷ o ∷ p ∷ c ∷ []) b width offset h k =
    inr (record { value = width; piece = w; rest = o ∷ p ∷ c ∷ []; tokens = refl; is = (h.0, h.1); next = offset_met (made width) o p c offset b h.2 h.3 h.4 h.5 k })
met_literal most made (w ∷ o ∷ p ∷ c ∷ q ∷ ps) b width offset h k = absurd h

-- a bit field: literals, or a register

abbrev pub IsFieldOf : ℕ → List Piece → Field → Type 0
IsFieldOf most ps (field.Register r) = IsLast r ps
IsFieldOf most ps (field.Literal width offset) = IsLiteral most ps width offset

pub field_start : (most few line e : ℕ) (made : Field → Body) → Start few true own_names line e (ended (field_at most) made) (Last Field (IsFieldOf most) made)
unfolding field_at
field_start most few line e made =
    start_as all (Last Field (IsFieldOf most) made) (λ ps. refl) (λ ps b. (to ps b, λ w. from ps b w.0 w.1 w.2))
    (named_start (one_register line e) all (λ r. end_with (registers r)) (Ends registers) (λ r p i. (i.0, i.2)) as_register as_literal refl (λ r. begun (end_start few line e (registers r))) (literal_start most few line e made) no_name_first)
  where
    all : ReaderState → Result Body ParseFault
    all s = ended (field_at most) made s

    registers : Reg → Body
    registers r = made (field.Register r)

    literals : ℕ → ℕ → Body
    literals width offset = made (field.Literal width offset)

    as_literal : (p : Piece) (ps : List Piece) (m : TokenValue) → p.says ≡ m → NoName m → all (st line e (p ∷ ps)) ≡ ended (literal_at most) made (st line e (p ∷ ps))
    as_literal p ps m h number_is = ap (λ (o : TokenValue). field_on most (st line e (p ∷ ps)) (Some o) >>= λ (z : Field × ReaderState). end_with (made z.0) z.1) h
    as_literal p ps m h text_is = ap (λ (o : TokenValue). field_on most (st line e (p ∷ ps)) (Some o) >>= λ (z : Field × ReaderState). end_with (made z.0) z.1) h
    as_literal p ps m h mark_is = ap (λ (o : TokenValue). field_on most (st line e (p ∷ ps)) (Some o) >>= λ (z : Field × ReaderState). end_with (made z.0) z.1) h

    as_register : (p : Piece) (ps : List Piece) (text : List ℕ) → p.says ≡ a_name text → all (st line e (p ∷ ps)) ≡ ended register_at registers (st line e (p ∷ ps))
    as_register p ps text h =
        ap (λ (o : TokenValue). field_on most (st line e (p ∷ ps)) (Some o) >>= λ (z : Field × ReaderState). end_with (made z.0) z.1) h
        ∙ mapped Reg Body Field (register_at (st line e (p ∷ ps))) (λ r. field.Register r) (λ z. end_with (made z))

    no_name_first : (p : Piece) (ps : List Piece) (b : Body) → LiteralEnd most literals (p ∷ ps) b → NoName p.says
    no_name_first p ps b (inl w) = unnamed p w.0 ps w.1 (a_mark 60) w.2 w.3 mark_is
    no_name_first p ps b (inr w) = unnamed p w.piece ps w.rest (a_number w.value) w.tokens w.is.0 number_is

    to : (ps : List Piece) (b : Body) → Then Reg IsRegister (λ r qs. Ends registers r qs b) ps ⊎ LiteralEnd most literals ps b → Last Field (IsFieldOf most) made ps b
    to ps b (inl w) = let k = last_register registers ps b w in (field.Register k.0, k.1, k.2)
    to ps b (inr w) = let k = literal_met most literals ps b w in (field.Literal k.0 k.1, k.2, k.3)

    from : (ps : List Piece) (b : Body) (x : Field) → IsFieldOf most ps x → made x ≡ b → Then Reg IsRegister (λ r qs. Ends registers r qs b) ps ⊎ LiteralEnd most literals ps b
    from ps b (field.Register r) h k = inl (register_last registers ps b r h k)
    from ps b (field.Literal width offset) h k = inr (met_literal most literals ps b width offset h k)
