-- The law of operands that commas part, walked once: the items of .word, .half and .byte.
use Rattle.std.proofs.Common.{◌≡◌, ℕ, zero, suc, ◌-◌, ◌/◌, ◌%◌, ◌≤◌, ◌<◌, Bool, true, false, cond, ◌⊎◌, inl, inr, List, [], ◌∷◌, ◌++◌, length, Option, Some, None, Ok, Err, Result, refl, sym, ap, ◌∙◌, arith, if◌then◌else◌, subst, append-nil, length-append}
use Rattle.m88_base.specs.declared.fixup.Kind.TheVariants.{Abs32}
use Rattle.m88_parse.specs.declared.fault.ParseFault.{ParseFault}
use Rattle.m88_parse.specs.declared.unit.Body.{Body}
use Rattle.m88_parse.specs.declared.unit.Value.{Value}
use Rattle.m88_parse.specs.Language.Pieces.{a_number, Piece}
use Rattle.m88_parse.specs.Inside.State.{ReaderState, past, is_mark_of, is_next_mark, ◌>>=◌}
use Rattle.m88_parse.specs.Inside.Slots.{Read, mark_at, negated, signed_at, value_at}
use Rattle.m88_parse.specs.Inside.Grammar.{many, list_at, word_item_at, Part, a_half, a_byte, modulus_of, part_item_at, end_with}
use Rattle.m88_parse.specs.Language.Operands.{minus, IsSigned, IsValue}
use Rattle.m88_parse.specs.Language.Statements.{AreParted, one as one_item, more as more_items}
use Rattle.m88_parse.proofs.Law.TestsAndChoices.{take_then, take_else}
use Rattle.m88_parse.proofs.Law.SingleTokens.{st, Naming, no_name, ok_same, bind_to, saying, mapped}
use Rattle.m88_parse.proofs.Law.Readings.{Several, AfterComma, Last, Ends, Walk, Start, begun, begun_more, end_start, mark_start, start_as, or_start, ended, IsUnsigned, mark_unsigned, end_unsigned}
use Rattle.m88_parse.proofs.Law.Values.{IsWhole, signed_start, value_start}
use Rattle.m88_parse.proofs.Law.LineFaults.Readers.{fault_in, Goes}

-- fewer tokens are left behind an item and its comma

abbrev Shortens : (A : Type 0) → (ReaderState → Read A) → Type 0
Shortens A item = (line e : ℕ) (ps : List Piece) (x : A × ReaderState) → item (st line e ps) ≡ Ok x → is_next_mark 44 x.1 ≡ true → (qs : List Piece) × (past x.1 ≡ st line e qs) × (length qs < length ps)

abbrev comma_behind : {A : Type 0} → A → ReaderState → Result ReaderState ParseFault
comma_behind x s = mark_at 44 s >>= λ t. Ok t

abbrev CommaBehind : {A : Type 0} → ℕ → ℕ → A → List Piece → ReaderState → Type 0
CommaBehind line e x ps t = AfterComma (λ qs. st line e qs ≡ t) ps

comma_start : {A : Type 0} (few line e : ℕ) (x : A) → Start few false no_name line e (comma_behind x) (CommaBehind line e x)
comma_start few line e x = mark_start 44 refl refl passed
  where
    passed : Walk few line e (λ t. let y : Result ReaderState ParseFault = Ok t in y) (λ qs t. st line e qs ≡ t)
    passed = record {
      law = λ ps t l. (λ h. ok_same h, λ h. ap (λ (u : ReaderState). let y : Result ReaderState ParseFault = Ok u in y) h);
      faults = (([], refl), λ law front u r ps f l a h. let y : ◌≡◌ {A = Option ParseFault} None (Some f) = sym (r ps) ∙ h in absurd cc);
    }

comma_unsigned : {A : Type 0} (line e : ℕ) (x : A) (ps : List Piece) (t : ReaderState) → CommaBehind line e x ps t → IsUnsigned ps
comma_unsigned line e x ps t w = mark_unsigned 44 w.0 ps w.1 w.2 w.3 refl refl

shortens : {A : Type 0} {Is : List Piece → A → Type 0} {num : Bool} {nam : Naming} (item : ReaderState → Read A)
    → ((few line e : ℕ) → Start few num nam line e (λ s. item s >>= λ (x : A × ReaderState). comma_behind x.0 x.1) (λ ps t. Several A Is (λ x qs. CommaBehind line e x qs t) ps)) → Shortens A item
shortens {A = A} item go line e ps x h t =
    let c : comma_behind x.0 x.1 ≡ Ok (past x.1) = ap (λ (r : Result ReaderState ParseFault). r >>= λ (u : ReaderState). let y : Result ReaderState ParseFault = Ok u in y) (take_then (is_next_mark 44 x.1) _ _ t) in
    let w = ((go (length ps) line e).law ps (past x.1) (omega arith)).0 (bind_to (item (st line e ps)) (λ (y : A × ReaderState). comma_behind y.0 y.1) x (Ok (past x.1)) h c) in
    let n = w.next in
    (n.1, sym n.4, omega (arith, ap length w.tokens, length-append w.front w.rest, ap length n.2))

-- with room enough, what is read is the same

abbrev joined : {A : Type 0} → A → List A × ReaderState → Read (List A)
joined x xs = Ok (x ∷ xs.0, xs.1)

bind_same : {A B : Type 0} (r : Result A ParseFault) (f g : A → Result B ParseFault) → ((x : A) → r ≡ Ok x → f x ≡ g x) → (r >>= f) ≡ (r >>= g)
bind_same (Ok x) f g h = h x refl
bind_same (Err y) f g h = refl

cond_same : {X : Type 0} (t : Bool) (a b c d : X) → (t ≡ true → a ≡ b) → c ≡ d → cond t a c ≡ cond t b d
cond_same true a b c d h k = h refl
cond_same false a b c d h k = k

many_same : {A : Type 0} (item : ReaderState → Read A) → Shortens A item → (a b line e : ℕ) (ps : List Piece) → length ps < a → length ps < b → many item a (st line e ps) ≡ many item b (st line e ps)
unfolding many
many_same item less zero b line e ps l m = absurd (omega arith)
many_same item less (suc a) zero line e ps l m = absurd (omega arith)
many_same {A = A} item less (suc a) (suc b) line e ps l m = bind_same (item (st line e ps)) _ _ (λ x h. cond_same (is_next_mark 44 x.1) _ _ _ _ (λ t. ap (λ (r : Read (List A)). r >>= joined x.0) (by_rest (λ qs i j. many_same item less a b line e qs i j) x (less line e ps x h t))) refl)
  where
    by_rest : ((qs : List Piece) → length qs < a → length qs < b → many item a (st line e qs) ≡ many item b (st line e qs)) → (x : A × ReaderState) → (qs : List Piece) × (past x.1 ≡ st line e qs) × (length qs < length ps) → many item a (past x.1) ≡ many item b (past x.1)
    by_rest ih x w = let n = w.2 in ap (many item a) w.1 ∙ ih w.0 (omega (arith, l, n)) (omega (arith, m, n)) ∙ sym (ap (many item b) w.1)

-- behind an item: a comma and more, or nothing

abbrev list_after : {A : Type 0} → (ReaderState → Read A) → (List A → Body) → A → ReaderState → Result Body ParseFault
list_after item made x t = if is_next_mark 44 t then ended (list_at item) (λ xs. made (x ∷ xs)) (past t) else end_with (made (x ∷ [])) t

abbrev ListAfter : (A : Type 0) → (List Piece → A → Type 0) → (List A → Body) → A → List Piece → Body → Type 0
ListAfter A Is made x ps b = AfterComma (λ qs. Last (List A) (AreParted Is) (λ xs. made (x ∷ xs)) qs b) ps ⊎ Ends made (x ∷ []) ps b

list_unsigned : {A : Type 0} (Is : List Piece → A → Type 0) (made : List A → Body) (x : A) (ps : List Piece) (b : Body) → ListAfter A Is made x ps b → IsUnsigned ps
list_unsigned Is made x ps b (inl w) = mark_unsigned 44 w.0 ps w.1 w.2 w.3 refl refl
list_unsigned Is made x ps b (inr w) = end_unsigned ps w.0

list_step : {A : Type 0} (item : ReaderState → Read A) → Shortens A item → (line e : ℕ) (made : List A → Body) (ps : List Piece) → ended (list_at item) made (st line e ps) ≡ (item (st line e ps) >>= λ (x : A × ReaderState). list_after item made x.0 x.1)
unfolding many
list_step {A = A} item less line e made ps = by_item (item (st line e ps)) refl
  where
    by_rest : (x : A × ReaderState) → (qs : List Piece) × (past x.1 ≡ st line e qs) × (length qs < length ps) → many item (length ps) (past x.1) ≡ list_at item (past x.1)
    by_rest x w = ap (many item (length ps)) w.1 ∙ many_same item less (length ps) (suc (length w.0)) line e w.0 w.2 (omega arith) ∙ sym (ap (λ (s : ReaderState). list_at item s) w.1)

    by_comma : (x : A × ReaderState) (t : Bool) → (t ≡ true → many item (length ps) (past x.1) ≡ list_at item (past x.1))
        → ((if t then (many item (length ps) (past x.1) >>= joined x.0) else Ok (x.0 ∷ [], x.1)) >>= λ (z : List A × ReaderState). end_with (made z.0) z.1) ≡ (if t then ended (list_at item) (λ xs. made (x.0 ∷ xs)) (past x.1) else end_with (made (x.0 ∷ [])) x.1)
    by_comma x true h =
        mapped (List A) Body (List A) (many item (length ps) (past x.1)) (λ xs. x.0 ∷ xs) (λ xs. end_with (made xs)) ∙ ap (λ (r : Read (List A)). r >>= λ (z : List A × ReaderState). end_with (made (x.0 ∷ z.0)) z.1) (h refl)
    by_comma x false h = refl

    by_item : (r : Read A) → item (st line e ps) ≡ r
        → ((r >>= λ (x : A × ReaderState). if is_next_mark 44 x.1 then (many item (length ps) (past x.1) >>= joined x.0) else Ok (x.0 ∷ [], x.1)) >>= λ (z : List A × ReaderState). end_with (made z.0) z.1) ≡ (r >>= λ (x : A × ReaderState). list_after item made x.0 x.1)
    by_item (Ok x) h = by_comma x (is_next_mark 44 x.1) (λ t. by_rest x (less line e ps x h t))
    by_item (Err f) h = refl

-- lists of items, walked once

pub list_walk : {A : Type 0} {num : Bool} {nam : Naming} (Is : List Piece → A → Type 0) (item : ReaderState → Read A) → Shortens A item
    → ((few line e : ℕ) (made : List A → Body) → ((x : A) → Start few false no_name line e (list_after item made x) (ListAfter A Is made x))
    → Start few num nam line e (λ s. item s >>= λ (x : A × ReaderState). list_after item made x.0 x.1) (λ ps b. Several A Is (λ x qs. ListAfter A Is made x qs b) ps))
    → ((line e : ℕ) (made : List A → Body) → Goes (λ ps. fault_in (ended (list_at item) made (st line e ps)))) → (few line e : ℕ) (made : List A → Body) → Walk few line e (ended (list_at item) made) (Last (List A) (AreParted Is) made)
list_walk Is item less starts some zero line e made = record { law = λ ps b l. absurd (omega (arith, l)); faults = (some line e made, λ law front u r ps f l. absurd (omega (arith, l))) }
list_walk {A = A} Is item less starts some (suc few) line e made =
    begun_more (start_as (ended (list_at item) made) (Last (List A) (AreParted Is) made) (list_step item less line e made) (λ ps b. (to ps b, λ w. from ps b w.0 w.1 w.2)) (starts few line e made (λ x. behind x (list_walk Is item less starts some few line e (λ xs. made (x ∷ xs))))))
  where
    behind : (x : A) → Walk few line e (ended (list_at item) (λ xs. made (x ∷ xs))) (Last (List A) (AreParted Is) (λ xs. made (x ∷ xs))) → Start few false no_name line e (list_after item made x) (ListAfter A Is made x)
    behind x go =
        or_start 44 (list_after item made x) refl (inr refl) (λ p ps t. take_then (is_mark_of 44 (Some p.says)) _ _ t) (λ p ps t. take_else (is_mark_of 44 (Some p.says)) _ _ t) refl
        go (end_start few line e (made (x ∷ []))) (λ p ps b w. let h = w.0 in absurd cc)

    to : (ps : List Piece) (b : Body) → Several A Is (λ x qs. ListAfter A Is made x qs b) ps → Last (List A) (AreParted Is) made ps b
    to ps b w = elim w.next [
      | inl n ↦ let k = n.4 in (w.value ∷ k.0, more_items n.0 (w.tokens ∙ ap (λ (qs : List Piece). w.front ++ qs) n.2) w.is n.3 k.1, k.2)
      | inr n ↦ (w.value ∷ [], one_item (subst (λ (qs : List Piece). Is qs w.value) (sym (w.tokens ∙ ap (λ (qs : List Piece). w.front ++ qs) n.0 ∙ append-nil w.front)) w.is), n.1)
    ]

    from : (ps : List Piece) (b : Body) (xs : List A) → AreParted Is ps xs → made xs ≡ b → Several A Is (λ x qs. ListAfter A Is made x qs b) ps
    from ps b xs (one_item {x = x} h) k = record { value = x; front = ps; rest = []; tokens = sym (append-nil ps); is = h; next = inr (refl, k) }
    from ps b xs (more_items {front = front} {rest = rest} c {x = x} {xs = ys} t h m hs) k = record { value = x; front = front; rest = c ∷ rest; tokens = t; is = h; next = inl (c, rest, refl, m, (ys, hs, k)) }

-- .word

pub words_walk : (few line e : ℕ) (made : List Value → Body) → Walk few line e (ended (list_at word_item_at) made) (Last (List Value) (AreParted (IsValue Abs32)) made)
unfolding many value_at signed_at
words_walk few line e made =
    list_walk (IsValue Abs32) word_item_at (shortens word_item_at (λ n l c. value_start Abs32 comma_behind (CommaBehind l c) (comma_start n l c) (comma_unsigned l c)))
    (λ n l c m go. value_start Abs32 (list_after word_item_at m) (ListAfter Value (IsValue Abs32) m) go (list_unsigned (IsValue Abs32) m)) (λ l c m. (saying (a_number 0) ∷ [], refl)) few line e made

-- .half and .byte

-- what is taken modulo is the number itself, or the modulus less it
record Wraps (modulus : ℕ) : Type 0 where
  below : (n : ℕ) → n < modulus → n ≤ modulus - 1
  small : (n : ℕ) → n ≤ modulus - 1 → (n % modulus ≡ n) × (n < modulus)
  turned : (n : ℕ) → n ≤ modulus / 2 → negated n % modulus ≡ minus modulus n

wraps : (part : Part) → Wraps (modulus_of part)
wraps a_half = record { below = λ n h. omega (arith, h); small = λ n h. (omega (arith, h), omega (arith, h)); turned = λ n h. omega (arith, h) }
wraps a_byte = record { below = λ n h. omega (arith, h); small = λ n h. (omega (arith, h), omega (arith, h)); turned = λ n h. omega (arith, h) }

part_signed : (m : ℕ) → Wraps m → (ps : List Piece) (v : ℕ) → IsWhole (m / 2) (m - 1) ps v → IsSigned m ps (v % m)
part_signed m w [] v h = h
part_signed m w (p ∷ []) v h = let s = w.small v h.1 in (h.0 ∙ ap a_number (sym s.0), subst (λ (k : ℕ). k < m) (sym s.0) s.1)
part_signed m w (o ∷ p ∷ []) v h = let k = h.1 in (h.0, (k.0, k.1, k.2, ap (λ (n : ℕ). n % m) k.3 ∙ w.turned k.0 k.2))
part_signed m w (p ∷ q ∷ r ∷ ps) v h = h

signed_part : (m : ℕ) → Wraps m → (ps : List Piece) (v : ℕ) → IsSigned m ps v → (n : ℕ) × IsWhole (m / 2) (m - 1) ps n × (n % m ≡ v)
signed_part m w [] v h = absurd h
signed_part m w (p ∷ []) v h = let l = w.below v h.1 in (v, (h.0, l), (w.small v l).0)
signed_part m w (o ∷ p ∷ []) v h = let k = h.1 in (negated k.0, (h.0, (k.0, k.1, k.2, refl)), w.turned k.0 k.2 ∙ sym k.3)
signed_part m w (p ∷ q ∷ r ∷ ps) v h = absurd h

part_start : {B : Type 0} {few line e : ℕ} (part : Part) (next : ℕ → ReaderState → Result B ParseFault) (Next : ℕ → List Piece → B → Type 0) → ((n : ℕ) → Walk few line e (next n) (Next n))
    → Start few true no_name line e (λ s. part_item_at part s >>= λ (x : ℕ × ReaderState). next x.0 x.1) (λ ps b. Several ℕ (IsSigned (modulus_of part)) (λ n qs. Next n qs b) ps)
part_start {B = B} {line = line} {e = e} part next Next go =
    start_as (λ s. part_item_at part s >>= λ (x : ℕ × ReaderState). next x.0 x.1) (λ ps b. Several ℕ (IsSigned m) (λ n qs. Next n qs b) ps) (λ ps. mapped ℕ B ℕ (signed_at (m / 2) (m - 1) (st line e ps)) (λ n. n % m) next) (λ ps b. (to ps b, from ps b))
    (signed_start (m / 2) (m - 1) (λ n. next (n % m)) (λ n. Next (n % m)) (λ n. go (n % m)))
  where
    m : ℕ
    m = modulus_of part

    to : (ps : List Piece) (b : B) → Several ℕ (IsWhole (m / 2) (m - 1)) (λ n qs. Next (n % m) qs b) ps → Several ℕ (IsSigned m) (λ n qs. Next n qs b) ps
    to ps b w = record { value = w.value % m; front = w.front; rest = w.rest; tokens = w.tokens; is = part_signed m (wraps part) w.front w.value w.is; next = w.next }

    from : (ps : List Piece) (b : B) → Several ℕ (IsSigned m) (λ n qs. Next n qs b) ps → Several ℕ (IsWhole (m / 2) (m - 1)) (λ n qs. Next (n % m) qs b) ps
    from ps b w = let n = signed_part m (wraps part) w.front w.value w.is in record { value = n.0; front = w.front; rest = w.rest; tokens = w.tokens; is = n.1; next = subst (λ (v : ℕ). Next v w.rest b) (sym n.2) w.next }

some_part : (part : Part) (line e : ℕ) (made : List ℕ → Body) → Goes (λ ps. fault_in (ended (list_at (part_item_at part)) made (st line e ps)))
unfolding many signed_at
some_part a_half line e made = (saying (a_number 0) ∷ [], refl)
some_part a_byte line e made = (saying (a_number 0) ∷ [], refl)

pub parts_walk : (part : Part) (few line e : ℕ) (made : List ℕ → Body) → Walk few line e (ended (list_at (part_item_at part)) made) (Last (List ℕ) (AreParted (IsSigned (modulus_of part))) made)
parts_walk part few line e made =
    list_walk (IsSigned (modulus_of part)) (part_item_at part) (shortens (part_item_at part) (λ n l c. part_start part comma_behind (CommaBehind l c) (λ x. begun (comma_start n l c x))))
    (λ n l c m go. part_start part (list_after (part_item_at part) m) (ListAfter ℕ (IsSigned (modulus_of part)) m) (λ x. begun (go x))) (some_part part) few line e made
