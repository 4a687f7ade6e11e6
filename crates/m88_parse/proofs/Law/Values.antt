-- Operands of several tokens, each walked once with whatever stands behind it: numbers with a sign, symbols with what is added
-- to them, and values.
use Rattle.std.proofs.Common.{◌≡◌, ◌↔◌, ℕ, ◌≤◌, ◌<◌, Bool, true, false, nat_le, if◌then◌else◌, ◌⊎◌, inl, inr, List, [], ◌∷◌, ◌++◌, length, Some, Ok, Err, refl, sym, ap, ◌∙◌, arith, subst, leb-true, le-leb}
use Rattle.m88_base.specs.declared.fixup.Kind.{Kind}
use Rattle.m88_base.specs.declared.fixup.Fixup.{Fixup}
use Rattle.m88_parse.specs.declared.fault.ParseKind.TheVariants.{Syntax, OutOfRange}
use Rattle.m88_parse.specs.declared.unit.Value.{Value}
use Rattle.m88_parse.specs.declared.unit.Value.TheVariants.{Number, Symbol}
use Rattle.m88_parse.specs.Language.Pieces.{TokenValue, a_name, a_number, a_text, a_mark, Piece}
use Rattle.m88_parse.specs.Inside.State.{ReaderState, first, is_mark_of, ◌>>=◌}
use Rattle.m88_parse.specs.Inside.Slots.{Read, negated, negative_on, unsigned_at, signed_at, symbol_at, addend_at, fixup_at, value_on, value_at}
use Rattle.m88_parse.specs.Language.Names.{IsMark, IsNumber, IsNamed}
use Rattle.m88_parse.specs.Language.Operands.{IsSigned, IsFixup, IsValue}
use Rattle.m88_parse.proofs.Law.TestsAndChoices.{take_then, take_else}
use Rattle.m88_parse.proofs.Law.SingleTokens.{st, no_name, symbols, saying, mark_says, IsUpTo, IsSymbolAt, one_number, one_symbol, mapped, turns, NoName, number_is, text_is, mark_is}
use Rattle.m88_parse.proofs.Law.Readings.{Reading, Relation, faults_of, Then, Several, AfterMark, Walk, Start, begun, slot_start, start_as, lead_start, IsUnsigned, AfterSign, sign_start, unnamed, named_start}
use Rattle.m88_parse.proofs.Law.LineFaults.Readers.{Goes, same_fault}
use Rattle.m88_parse.proofs.Law.LineFaults.TokenByToken.{Leads}
use Rattle.m88_parse.proofs.Law.LineFaults.OwnSigns.{sign_leads}

-- a number with a sign of its own

abbrev pub IsWhole : ℕ → ℕ → List Piece → ℕ → Type 0
IsWhole low most (p ∷ []) v = IsNumber v p × (v ≤ most)
IsWhole low most (m ∷ p ∷ []) v = IsMark 45 m × ((n : ℕ) × IsNumber n p × (n ≤ low) × (v ≡ negated n))
IsWhole low most ps v = ⊥

-- by its first token: a - with a number behind it, or a number
abbrev Signed : {B : Type 0} → ℕ → ℕ → (ℕ → Relation B) → Relation B
Signed low most Next ps b = AfterMark 45 (λ qs. Then ℕ (IsUpTo low) (λ n us. Next (negated n) us b) qs) ps ⊎ Then ℕ (IsUpTo most) (λ n qs. Next n qs b) ps

whole_signed : {B : Type 0} (low most : ℕ) (Next : ℕ → Relation B) (b : B) (ps front rest : List Piece) (v : ℕ) → ps ≡ front ++ rest → IsWhole low most front v
    → Next v rest b → Signed low most Next ps b
whole_signed low most Next b ps [] rest v t h k = absurd h
whole_signed low most Next b ps (p ∷ []) rest v t h k = inr (record { value = v; piece = p; rest = rest; tokens = t; is = h; next = k })
whole_signed low most Next b ps (m ∷ p ∷ []) rest v t h k =
    let n = h.1 in
    inl (m, p ∷ rest, t, h.0, record { value = n.0; piece = p; rest = rest; tokens = refl; is = (n.1, n.2); next = subst (λ (z : ℕ). Next z rest b) n.3 k })
whole_signed low most Next b ps (p ∷ q ∷ r ∷ front) rest v t h k = absurd h

signed_whole : {B : Type 0} (low most : ℕ) (Next : ℕ → Relation B) (b : B) (ps : List Piece) → Signed low most Next ps b
    → Several ℕ (IsWhole low most) (λ n qs. Next n qs b) ps
signed_whole low most Next b ps (inl w) =
    let n = w.4 in
    record { value = negated n.value; front = w.0 ∷ n.piece ∷ []; rest = n.rest; tokens = w.2 ∙ ap (λ (qs : List Piece). w.0 ∷ qs) n.tokens; is = (w.3, (n.value, n.is.0, n.is.1, refl)); next = n.next }
signed_whole low most Next b ps (inr n) = record { value = n.value; front = n.piece ∷ []; rest = n.rest; tokens = n.tokens; is = n.is; next = n.next }

pub signed_start : {B : Type 0} {few line e : ℕ} (low most : ℕ) (next : ℕ → Reading B) (Next : ℕ → Relation B) → ((n : ℕ) → Walk few line e (next n) (Next n))
    → Start few true no_name line e (λ s. signed_at low most s >>= λ (x : ℕ × ReaderState). next x.0 x.1) (λ ps b. Several ℕ (IsWhole low most) (λ n qs. Next n qs b) ps)
unfolding signed_at unsigned_at
signed_start {B = B} {few = few} {line = line} {e = e} low most next Next go =
    start_as all (λ ps b. Several ℕ (IsWhole low most) (λ n qs. Next n qs b) ps) (λ ps. refl) (λ ps b. (signed_whole low most Next b ps, λ w. whole_signed low most Next b ps w.front w.rest w.value w.tokens w.is w.next))
    (lead_start 45 all refl begins by_sign turned (λ p ps t. bound (take_else (is_mark_of 45 (Some p.says)) _ _ t)) refl (slot_start (one_number most line e) next Next go)
    (λ p ps b w. let h = w.tokens in let same : p ≡ w.piece = cc in ap (λ (q : Piece). is_mark_of 45 (Some q.says)) same ∙ ap (λ (m : TokenValue). is_mark_of 45 (Some m)) w.is.0))
  where
    all : Reading B
    all s = signed_at low most s >>= λ (x : ℕ × ReaderState). next x.0 x.1

    bound : {q r : Read ℕ} → q ≡ r → (q >>= λ (x : ℕ × ReaderState). next x.0 x.1) ≡ (r >>= λ (x : ℕ × ReaderState). next x.0 x.1)
    bound h = ap (λ (r : Read ℕ). r >>= λ (x : ℕ × ReaderState). next x.0 x.1) h

    behind : (m : Piece) (ps : List Piece) → is_mark_of 45 (Some m.says) ≡ true → all (st line e (m ∷ ps)) ≡ (negative_on low (st line e (m ∷ ps)) (st line e ps) (first (st line e ps)) >>= λ (x : ℕ × ReaderState). next x.0 x.1)
    behind m ps t = bound (take_then (is_mark_of 45 (Some m.says)) _ _ t)

    number : (m q : Piece) (ps : List Piece) (n : ℕ) → is_mark_of 45 (Some m.says) ≡ true → IsNumber n q
        → all (st line e (m ∷ q ∷ ps)) ≡ ((if nat_le n low then Ok (negated n, st line e ps) else Err (record { line = line; col = m.col; kind = OutOfRange })) >>= λ (x : ℕ × ReaderState). next x.0 x.1)
    number m q ps n t i = behind m (q ∷ ps) t ∙ ap (λ (o : TokenValue). negative_on low (st line e (m ∷ q ∷ ps)) (st line e (q ∷ ps)) (Some o) >>= λ (x : ℕ × ReaderState). next x.0 x.1) i

    small : (m q : Piece) (ps : List Piece) (n : ℕ) → is_mark_of 45 (Some m.says) ≡ true → IsNumber n q → nat_le n low ≡ true → all (st line e (m ∷ q ∷ ps)) ≡ next (negated n) (st line e ps)
    small m q ps n t i l = number m q ps n t i ∙ bound (take_then (nat_le n low) _ _ l)

    large : (m q : Piece) (ps : List Piece) (n : ℕ) → is_mark_of 45 (Some m.says) ≡ true → IsNumber n q → nat_le n low ≡ false → all (st line e (m ∷ q ∷ ps)) ≡ Err (record { line = line; col = m.col; kind = OutOfRange })
    large m q ps n t i l = number m q ps n t i ∙ bound (take_else (nat_le n low) _ _ l)

    by_other : (m q : Piece) (ps : List Piece) (o : TokenValue) → q.says ≡ o → ((n : ℕ) → IsNumber n q → ⊥)
        → (negative_on low (st line e (m ∷ q ∷ ps)) (st line e (q ∷ ps)) (Some o) >>= λ (x : ℕ × ReaderState). next x.0 x.1) ≡ Err (record { line = line; col = q.col; kind = Syntax })
    by_other m q ps (a_name name) i n = refl
    by_other m q ps (a_number v) i n = absurd (n v i)
    by_other m q ps (a_text bytes) i n = refl
    by_other m q ps (a_mark b) i n = refl

    other : (m q : Piece) (ps : List Piece) → is_mark_of 45 (Some m.says) ≡ true → ((n : ℕ) → IsNumber n q → ⊥) → all (st line e (m ∷ q ∷ ps)) ≡ Err (record { line = line; col = q.col; kind = Syntax })
    other m q ps t i = behind m (q ∷ ps) t ∙ by_other m q ps q.says refl i

    by_sign : (m : Piece) → is_mark_of 45 (Some m.says) ≡ true → Leads few true line e (faults_of line e all) m
    by_sign m t =
        sign_leads few line e low (faults_of line e all) (λ n. faults_of line e (next (negated n))) m (mark_says 45 m.says t) (same_fault (behind m [] t))
        (λ n q ps i l. same_fault (small m q ps n t i l)) (λ n q ps i l. same_fault (large m q ps n t i l))
        (λ q ps i. same_fault (other m q ps t i)) (λ n. (go (negated n)).faults)

    begins : Goes (faults_of line e all)
    begins =
        let minus = saying (a_mark 45) in
        let zero = saying (a_number 0) in
        let y = (go (negated 0)).faults.0 in
        (minus ∷ zero ∷ y.0, same_fault (small minus zero y.0 0 refl refl (le-leb 0 low (omega arith))) ∙ y.1)

    Turned : Relation B
    Turned ps b = Then ℕ (IsUpTo low) (λ n qs. Next (negated n) qs b) ps

    by_test : (m q : Piece) (ps : List Piece) (b : B) (n : ℕ) (u : Bool) → is_mark_of 45 (Some m.says) ≡ true → IsNumber n q → nat_le n low ≡ u → length ps < few → all (st line e (m ∷ q ∷ ps)) ≡ Ok b → Turned (q ∷ ps) b
    by_test m q ps b n true t i u l x = record { value = n; piece = q; rest = ps; tokens = refl; is = (i, leb-true n low u); next = ((go (negated n)).law ps b l).0 (sym (small m q ps n t i u) ∙ x) }
    by_test m q ps b n false t i u l x = let y = sym (large m q ps n t i u) ∙ x in absurd cc

    by_says : (m q : Piece) (ps : List Piece) (b : B) (o : TokenValue) → q.says ≡ o → is_mark_of 45 (Some m.says) ≡ true → length ps < few → all (st line e (m ∷ q ∷ ps)) ≡ Ok b → Turned (q ∷ ps) b
    by_says m q ps b (a_name name) i t l x = let y = sym (other m q ps t (λ n h. let z = sym i ∙ h in cc)) ∙ x in absurd cc
    by_says m q ps b (a_number n) i t l x = by_test m q ps b n (nat_le n low) t i refl l x
    by_says m q ps b (a_text bytes) i t l x = let y = sym (other m q ps t (λ n h. let z = sym i ∙ h in cc)) ∙ x in absurd cc
    by_says m q ps b (a_mark o) i t l x = let y = sym (other m q ps t (λ n h. let z = sym i ∙ h in cc)) ∙ x in absurd cc

    reads : (m : Piece) (ps : List Piece) (b : B) → is_mark_of 45 (Some m.says) ≡ true → length ps < few → all (st line e (m ∷ ps)) ≡ Ok b → Turned ps b
    reads m [] b t l x = let y = sym (behind m [] t) ∙ x in absurd cc
    reads m (q ∷ ps) b t l x = by_says m q ps b q.says refl t (omega (arith, l)) x

    turned : (m : Piece) (ps : List Piece) (b : B) → is_mark_of 45 (Some m.says) ≡ true → length ps < few → (all (st line e (m ∷ ps)) ≡ Ok b) ↔ Turned ps b
    turned m ps b t l = (
      reads m ps b t l,
      λ w. ap (λ (qs : List Piece). all (st line e (m ∷ qs))) w.tokens ∙ small m w.piece w.rest w.value t w.is.0 (le-leb w.value low w.is.1) ∙ ((go (negated w.value)).law w.rest b (omega (arith, l, ap length w.tokens))).1 w.next,
    )

-- a number with a sign, modulo 2^32

pub word_signed : (ps : List Piece) (v : ℕ) → IsWhole 2147483648 4294967295 ps v → IsSigned 4294967296 ps v
word_signed [] v h = h
word_signed (p ∷ []) v h = (h.0, omega (arith, h.1))
word_signed (m ∷ p ∷ []) v h = h
word_signed (p ∷ q ∷ r ∷ ps) v h = h

pub signed_word : (ps : List Piece) (v : ℕ) → IsSigned 4294967296 ps v → IsWhole 2147483648 4294967295 ps v
signed_word [] v h = h
signed_word (p ∷ []) v h = (h.0, omega (arith, h.1))
signed_word (m ∷ p ∷ []) v h = h
signed_word (p ∷ q ∷ r ∷ ps) v h = h

-- a symbol with what is added to it

abbrev made_fixup : Kind → List ℕ × ℕ → ℕ → Fixup
made_fixup kind name n = record { kind = kind; symbol = name.0; addend = n; col = name.1 }

-- behind the symbol
abbrev addend_then : {B : Type 0} → Kind → (Fixup → Reading B) → List ℕ × ℕ → Reading B
addend_then kind next name s = addend_at s >>= λ (more : ℕ × ReaderState). next (made_fixup kind name more.0) more.1

abbrev Added : {B : Type 0} → Kind → (Fixup → Relation B) → List ℕ × ℕ → Relation B
Added kind Next name =
    AfterSign (λ ps b. Then ℕ (IsUpTo 2147483647) (λ n qs. Next (made_fixup kind name n) qs b) ps) (λ ps b. Then ℕ (IsUpTo 2147483647) (λ n qs. Next (made_fixup kind name (negated n)) qs b) ps) (Next (made_fixup kind name 0))

added_start : {B : Type 0} {few line e : ℕ} (kind : Kind) (next : Fixup → Reading B) (Next : Fixup → Relation B)
    → ((f : Fixup) → Start few false no_name line e (next f) (Next f))
    → ((f : Fixup) (ps : List Piece) (b : B) → Next f ps b → IsUnsigned ps) → (name : List ℕ × ℕ) → Start few false no_name line e (addend_then kind next name) (Added kind Next name)
unfolding addend_at
added_start {B = B} {line = line} {e = e} kind next Next go unsigned name =
    sign_start (unsigned_at 2147483647) (λ s. unsigned_at 2147483647 s >>= λ (n : ℕ × ReaderState). let y : Read ℕ = Ok (negated n.0, n.1) in y) 0 (λ n. next (made n))
    (begun (slot_start (one_number 2147483647 line e) (λ n. next (made n)) (λ n. Next (made n)) (λ n. begun (go (made n)))))
    (begun (start_as (λ s. (unsigned_at 2147483647 s >>= λ (n : ℕ × ReaderState). let y : Read ℕ = Ok (negated n.0, n.1) in y) >>= λ (x : ℕ × ReaderState). next (made x.0) x.1) (λ ps b. Then ℕ (IsUpTo 2147483647) (λ n qs. Next (made (negated n)) qs b) ps)
    (λ ps. mapped ℕ B ℕ (unsigned_at 2147483647 (st line e ps)) negated (λ n. next (made n))) (λ ps b. (λ w. w, λ w. w))
    (slot_start (one_number 2147483647 line e) (λ n. next (made (negated n))) (λ n. Next (made (negated n))) (λ n. begun (go (made (negated n)))))))
    (go (made 0)) (unsigned (made 0))
  where
    made : ℕ → Fixup
    made n = made_fixup kind name n

abbrev SymbolThen : {B : Type 0} → Kind → (Fixup → Relation B) → Relation B
SymbolThen kind Next ps b = Then (List ℕ × ℕ) IsSymbolAt (λ name qs. Added kind Next name qs b) ps

added_fixup : {B : Type 0} (kind : Kind) (Next : Fixup → Relation B) (b : B) (ps : List Piece) (s : Piece) (rest : List Piece) (name : List ℕ × ℕ)
    → ps ≡ s ∷ rest → IsSymbolAt name s → Added kind Next name rest b
    → Several Fixup (IsFixup kind) (λ f qs. Next f qs b) ps
added_fixup kind Next b ps s rest name t i (inl w) =
    let n = w.4 in
    let l = n.is.1 in
    record { value = made_fixup kind name n.value; front = s ∷ w.0 ∷ n.piece ∷ []; rest = n.rest; tokens = t ∙ ap (λ (qs : List Piece). s ∷ qs) (w.2 ∙ ap (λ (qs : List Piece). w.0 ∷ qs) n.tokens); is = ((refl, i.0, i.1), (n.value, n.is.0, omega (arith, l), inl (w.3, refl))); next = n.next }
added_fixup kind Next b ps s rest name t i (inr (inl w)) =
    let n = w.4 in
    let l = n.is.1 in
    record { value = made_fixup kind name (negated n.value); front = s ∷ w.0 ∷ n.piece ∷ []; rest = n.rest; tokens = t ∙ ap (λ (qs : List Piece). s ∷ qs) (w.2 ∙ ap (λ (qs : List Piece). w.0 ∷ qs) n.tokens); is = ((refl, i.0, i.1), (n.value, n.is.0, omega (arith, l), inr (w.3, refl))); next = n.next }
added_fixup kind Next b ps s rest name t i (inr (inr w)) = record { value = made_fixup kind name 0; front = s ∷ []; rest = rest; tokens = t; is = ((refl, i.0, i.1), refl); next = w }

same_fixup : (kind : Kind) (f : Fixup) (n : ℕ) → f.kind ≡ kind → f.addend ≡ n → f ≡ made_fixup kind (f.symbol, f.col) n
same_fixup kind f n h k = λ i. record { kind = h i; symbol = f.symbol; addend = k i; col = f.col }

fixup_added : {B : Type 0} (kind : Kind) (Next : Fixup → Relation B) (b : B) (ps front rest : List Piece) (f : Fixup) → ps ≡ front ++ rest
    → IsFixup kind front f → Next f rest b → SymbolThen kind Next ps b
fixup_added kind Next b ps [] rest f t h k = absurd h
fixup_added kind Next b ps (s ∷ []) rest f t h k =
    let i = h.0 in
    record { value = (f.symbol, f.col); piece = s; rest = rest; tokens = t; is = (i.1, i.2); next = inr (inr (subst (λ (g : Fixup). Next g rest b) (same_fixup kind f 0 i.0 h.1) k)) }
fixup_added kind Next b ps (s ∷ m ∷ []) rest f t h k = absurd h
fixup_added kind Next b ps (s ∷ m ∷ p ∷ []) rest f t h k =
    let i = h.0 in
    let a = h.1 in
    let l = a.2 in
    record {
      value = (f.symbol, f.col);
      piece = s;
      rest = m ∷ p ∷ rest;
      tokens = t;
      is = (i.1, i.2);
      next = elim a.3 [
        | inl j ↦ inl (m, p ∷ rest, refl, j.0, record { value = a.0; piece = p; rest = rest; tokens = refl; is = (a.1, omega (arith, l)); next = subst (λ (g : Fixup). Next g rest b) (same_fixup kind f a.0 i.0 j.1) k })
        | inr j ↦ inr (inl (m, p ∷ rest, refl, j.0, record { value = a.0; piece = p; rest = rest; tokens = refl; is = (a.1, omega (arith, l)); next = subst (λ (g : Fixup). Next g rest b) (same_fixup kind f (negated a.0) i.0 j.1) k }))
      ];
    }
fixup_added kind Next b ps (s ∷ m ∷ p ∷ q ∷ front) rest f t h k = absurd h

fixup_steps : {B : Type 0} (kind : Kind) (s : ReaderState) (next : Fixup → Reading B)
    → (fixup_at kind s >>= λ (x : Fixup × ReaderState). next x.0 x.1)
    ≡ (symbol_at s >>= λ (name : (List ℕ × ℕ) × ReaderState). addend_then kind next name.0 name.1)
unfolding fixup_at
fixup_steps {B = B} kind s next = turns (symbol_at s) _ _ _ (λ name. mapped ℕ B Fixup (addend_at name.1) (λ n. made_fixup kind name.0 n) next)

pub fixup_start : {B : Type 0} {few line e : ℕ} (kind : Kind) (next : Fixup → Reading B) (Next : Fixup → Relation B)
    → ((f : Fixup) → Start few false no_name line e (next f) (Next f))
    → ((f : Fixup) (ps : List Piece) (b : B) → Next f ps b → IsUnsigned ps) → Start few false symbols line e (λ s. fixup_at kind s >>= λ (x : Fixup × ReaderState). next x.0 x.1) (λ ps b. Several Fixup (IsFixup kind) (λ f qs. Next f qs b) ps)
fixup_start {line = line} {e = e} kind next Next go unsigned =
    start_as (λ s. fixup_at kind s >>= λ (x : Fixup × ReaderState). next x.0 x.1) (λ ps b. Several Fixup (IsFixup kind) (λ f qs. Next f qs b) ps) (λ ps. fixup_steps kind (st line e ps) next)
    (λ ps b. (λ w. added_fixup kind Next b ps w.piece w.rest w.value w.tokens w.is w.next, λ w. fixup_added kind Next b ps w.front w.rest w.value w.tokens w.is w.next))
    (slot_start (one_symbol line e) (addend_then kind next) (Added kind Next) (λ name. begun (added_start kind next Next go unsigned name)))

-- a value: a number with a sign, or a symbol with what is added to it

pub value_start : {B : Type 0} {few line e : ℕ} (kind : Kind) (next : Value → Reading B) (Next : Value → Relation B)
    → ((v : Value) → Start few false no_name line e (next v) (Next v))
    → ((v : Value) (ps : List Piece) (b : B) → Next v ps b → IsUnsigned ps) → Start few true symbols line e (λ s. value_at kind s >>= λ (x : Value × ReaderState). next x.0 x.1) (λ ps b. Several Value (IsValue kind) (λ v qs. Next v qs b) ps)
unfolding value_at signed_at
value_start {B = B} {line = line} {e = e} kind next Next go unsigned =
    start_as all (λ ps b. Several Value (IsValue kind) (λ v qs. Next v qs b) ps) (λ ps. refl) (λ ps b. (to ps b, λ w. from ps b w.value w.front w.rest w.tokens w.is w.next))
    (named_start (one_symbol line e) all (addend_then kind fixups) (Added kind Fixups) (λ x p i. (x.0, i.0.0)) named plain refl (λ name. begun (added_start kind fixups Fixups (λ f. go (Symbol f)) (λ f. unsigned (Symbol f)) name))
    (signed_start 2147483648 4294967295 (λ n. next (Number n)) (λ n. Next (Number n)) (λ n. begun (go (Number n)))) (λ p ps b w. whole_unnamed p ps w.front w.rest w.value w.tokens w.is))
  where
    all : Reading B
    all s = value_at kind s >>= λ (x : Value × ReaderState). next x.0 x.1

    fixups : Fixup → Reading B
    fixups f = next (Symbol f)

    Fixups : Fixup → Relation B
    Fixups f = Next (Symbol f)

    Numbers : Relation B
    Numbers ps b = Several ℕ (IsWhole 2147483648 4294967295) (λ n qs. Next (Number n) qs b) ps

    said : (p : Piece) (ps : List Piece) (m : TokenValue) → p.says ≡ m → all (st line e (p ∷ ps)) ≡ (value_on kind (st line e (p ∷ ps)) (Some m) >>= λ (x : Value × ReaderState). next x.0 x.1)
    said p ps m h = ap (λ (o : TokenValue). value_on kind (st line e (p ∷ ps)) (Some o) >>= λ (x : Value × ReaderState). next x.0 x.1) h

    named : (p : Piece) (ps : List Piece) (text : List ℕ) → IsNamed text p → all (st line e (p ∷ ps)) ≡ (symbol_at (st line e (p ∷ ps)) >>= λ (name : (List ℕ × ℕ) × ReaderState). addend_then kind fixups name.0 name.1)
    named p ps text h = said p ps (a_name text) h ∙ mapped Fixup B Value (fixup_at kind (st line e (p ∷ ps))) (λ f. Symbol f) next ∙ fixup_steps kind (st line e (p ∷ ps)) fixups

    plain : (p : Piece) (ps : List Piece) (m : TokenValue) → p.says ≡ m → NoName m → all (st line e (p ∷ ps)) ≡ (signed_at 2147483648 4294967295 (st line e (p ∷ ps)) >>= λ (x : ℕ × ReaderState). next (Number x.0) x.1)
    plain p ps m h number_is = said p ps m h ∙ mapped ℕ B Value (signed_at 2147483648 4294967295 (st line e (p ∷ ps))) (λ n. Number n) next
    plain p ps m h text_is = said p ps m h ∙ mapped ℕ B Value (signed_at 2147483648 4294967295 (st line e (p ∷ ps))) (λ n. Number n) next
    plain p ps m h mark_is = said p ps m h ∙ mapped ℕ B Value (signed_at 2147483648 4294967295 (st line e (p ∷ ps))) (λ n. Number n) next

    whole_unnamed : (p : Piece) (ps front rest : List Piece) (n : ℕ) → p ∷ ps ≡ front ++ rest → IsWhole 2147483648 4294967295 front n → NoName p.says
    whole_unnamed p ps [] rest n t h = absurd h
    whole_unnamed p ps (q ∷ []) rest n t h = unnamed p q ps rest (a_number n) t h.0 number_is
    whole_unnamed p ps (m ∷ q ∷ []) rest n t h = unnamed p m ps (q ∷ rest) (a_mark 45) t h.0 mark_is
    whole_unnamed p ps (m ∷ q ∷ r ∷ front) rest n t h = absurd h

    to : (ps : List Piece) (b : B) → SymbolThen kind Fixups ps b ⊎ Numbers ps b → Several Value (IsValue kind) (λ v qs. Next v qs b) ps
    to ps b (inl w) =
        let f = added_fixup kind Fixups b ps w.piece w.rest w.value w.tokens w.is w.next in
        record { value = Symbol f.value; front = f.front; rest = f.rest; tokens = f.tokens; is = f.is; next = f.next }
    to ps b (inr w) = record { value = Number w.value; front = w.front; rest = w.rest; tokens = w.tokens; is = word_signed w.front w.value w.is; next = w.next }

    from : (ps : List Piece) (b : B) (v : Value) (front rest : List Piece) → ps ≡ front ++ rest → IsValue kind front v → Next v rest b → SymbolThen kind Fixups ps b ⊎ Numbers ps b
    from ps b (Number n) front rest t h k = inr (record { value = n; front = front; rest = rest; tokens = t; is = signed_word front n h; next = k })
    from ps b (Symbol f) front rest t h k = inl (fixup_added kind Fixups b ps front rest f t h k)
