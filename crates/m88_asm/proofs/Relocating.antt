-- A section whose relocations are carried out is the section with its symbols replaced.
use Rattle.std.proofs.Common.{ℕ, true, false, ◌≡◌, ◌+◌, ◌*◌, ◌^◌, ◌<◌, List, [], ◌∷◌, ◌++◌, length, take, drop, Some, None, refl, sym, ◌∙◌, ap, subst, append_assoc, arith, length-append, inl, inr, add-zero}
use Rattle.std.specs.Prelude.{flat_map, ◌==◌, if◌then◌else◌}
use Rattle.std.specs.Int.{to_be_bytes, from_be_bytes, w16, w32}
use Rattle.std.proofs.lemmas.Bool.{cases_Bool, cond-true, cond-false, eqb-true}
use Rattle.std.proofs.lemmas.Nat.{from_be_bytes-to_be_bytes_4, mod_below}
use Rattle.std.proofs.lemmas.List.{length-replicate}
use Rattle.std.proofs.Math.Seq.{take-append_seam, drop-append_seam, drop-append-add}
use Rattle.std.proofs.Math.Dec.{lit<}
use Rattle.m88_base.specs.declared.fixup.Fixup.{Fixup}
use Rattle.m88_base.specs.declared.fixup.Kind.{Kind}
use Rattle.m88_base.specs.declared.fixup.Kind.TheVariants.{Abs32}
use Rattle.m88_isa.specs.Word.{word_of}
use Rattle.m88_parse.specs.declared.unit.Body.{Body}
use Rattle.m88_parse.specs.declared.unit.Body.TheVariants as body
use Rattle.m88_parse.specs.declared.unit.Statement.{Statement}
use Rattle.m88_parse.specs.declared.unit.Value.{Value}
use Rattle.m88_parse.specs.declared.unit.Value.TheVariants as word
use Rattle.m88_parse.specs.WellFormed.{IsFormedBody, IsFormedStatement}
use Rattle.m88_link.specs.declared.object.Reloc.{Reloc}
use Rattle.m88_link.specs.Field.{is_in_reach, patched_word}
use Rattle.m88_link.specs.Relocated.{patched, relocated, target_of}
use Rattle.m88_asm.specs.Counters.{Counters, Located, after, located, length_at, length_of, offset_of, padding, place_of, section_of}
use Rattle.m88_asm.specs.Filled.{filled_bytes, filled_word, target, waiting_bytes, waiting_word}
use Rattle.m88_asm.specs.Objects.{uses_in_body, uses_in_values, symbol_uses, waiting_in}
use Rattle.m88_asm.proofs.FieldLaw.{field_law, waiting_bound}

-- a word between other bytes, patched
patched_between : (kind : Kind) (front w back : List ℕ) (t at : ℕ) → length w ≡ 4
    → patched kind (front ++ (w ++ back)) (length front) t at
    ≡ front ++ (to_be_bytes w32 (patched_word kind (from_be_bytes w32 w) t at) ++ back)
patched_between kind front w back t at h =
    let a : take (length front) (front ++ (w ++ back)) ≡ front = take-append_seam front (w ++ back) in
    let b : drop (length front) (front ++ (w ++ back)) ≡ w ++ back = drop-append_seam front (w ++ back) in
    let c : take 4 (w ++ back) ≡ w = subst (λ n. take n (w ++ back) ≡ w) h (take-append_seam w back) in
    let d : drop 4 (w ++ back) ≡ back = subst (λ n. drop n (w ++ back) ≡ back) h (drop-append_seam w back) in
    let e : drop (length front + 4) (front ++ (w ++ back)) ≡ drop 4 (w ++ back) = drop-append-add front (w ++ back) 4 in
    rw (a, e, b, c, d)

-- the targets of relocations, each in reach of its field
abbrev pub AreInReach : (List ℕ → ℕ) → (ℕ → ℕ) → List Reloc → Type 0
AreInReach value base [] = Unit {0}
AreInReach value base (r ∷ rs) =
    (is_in_reach r.kind (target_of value r) (base r.section + r.offset) ≡ true) × AreInReach value base rs

pub in_reach_left : (value : List ℕ → ℕ) (base : ℕ → ℕ) (xs ys : List Reloc) → AreInReach value base (xs ++ ys) → AreInReach value base xs
in_reach_left value base [] ys h = tt
in_reach_left value base (x ∷ xs) ys h = (h.0, in_reach_left value base xs ys h.1)

pub in_reach_right : (value : List ℕ → ℕ) (base : ℕ → ℕ) (xs ys : List Reloc) → AreInReach value base (xs ++ ys) → AreInReach value base ys
in_reach_right value base [] ys h = h
in_reach_right value base (x ∷ xs) ys h = in_reach_right value base xs ys h.1

relocated-append : (value : List ℕ → ℕ) (base : ℕ → ℕ) (k : ℕ) (rs ss : List Reloc) (bytes : List ℕ)
    → relocated value base k (rs ++ ss) bytes ≡ relocated value base k ss (relocated value base k rs bytes)
relocated-append value base k [] ss bytes = refl
relocated-append value base k (r ∷ rs) ss bytes = relocated-append value base k rs ss _

-- relocations of another section
elsewhere_values : (value : List ℕ → ℕ) (base : ℕ → ℕ) (k s offset line : ℕ) (vs : List Value) (bytes : List ℕ) → (s == k) ≡ false
    → relocated value base k (uses_in_values s offset line vs) bytes ≡ bytes
elsewhere_values value base k s offset line [] bytes h = refl
elsewhere_values value base k s offset line (word.Number n ∷ vs) bytes h = elsewhere_values value base k s (offset + 4) line vs bytes h
elsewhere_values value base k s offset line (word.Symbol f ∷ vs) bytes h =
    ap (relocated value base k (uses_in_values s (offset + 4) line vs)) (cond-false (s == k) _ bytes h)
    ∙ elsewhere_values value base k s (offset + 4) line vs bytes h

elsewhere : (value : List ℕ → ℕ) (base : ℕ → ℕ) (k s offset line : ℕ) (b : Body) (bytes : List ℕ) → (s == k) ≡ false
    → relocated value base k (uses_in_body s offset line b) bytes ≡ bytes
elsewhere value base k s offset line (body.Word vs) bytes h = elsewhere_values value base k s offset line vs bytes h
elsewhere value base k s offset line (body.Code i None) bytes h = refl
elsewhere value base k s offset line (body.Code i (Some f)) bytes h = cond-false (s == k) _ bytes h
elsewhere value base k s offset line _ bytes h = refl

-- pieces moved into the front
regroup : (a b c d : List ℕ) → a ++ ((b ++ c) ++ d) ≡ (a ++ b) ++ (c ++ d)
regroup a b c d = ap (λ x. a ++ x) (append_assoc b c d) ∙ sym (append_assoc a b (c ++ d))

next_piece : (change : List ℕ → List ℕ) (front w ws fs back : List ℕ) → change ((front ++ w) ++ (ws ++ back)) ≡ (front ++ w) ++ (fs ++ back)
    → change (front ++ ((w ++ ws) ++ back)) ≡ front ++ ((w ++ fs) ++ back)
next_piece change front w ws fs back h = ap change (regroup front w ws back) ∙ h ∙ sym (regroup front w fs back)

-- the word of a number between other bytes, patched
patched_number : (kind : Kind) (front back : List ℕ) (n t at : ℕ) → n < 2 ^ 32
    → patched kind (front ++ (to_be_bytes w32 n ++ back)) (length front) t at
    ≡ front ++ (to_be_bytes w32 (patched_word kind n t at) ++ back)
patched_number kind front back n t at h =
    patched_between kind front (to_be_bytes w32 n) back t at refl
    ∙ ap (λ m. front ++ (to_be_bytes w32 (patched_word kind m t at) ++ back)) (from_be_bytes-to_be_bytes_4 n h)

patched_zero : (t at : ℕ) → patched_word Abs32 0 t at ≡ t
patched_zero t at = omega arith

more_behind : (front w : List ℕ) (offset n : ℕ) → offset ≡ length front → length w ≡ n → offset + n ≡ length (front ++ w)
more_behind front w offset n e l = ap (λ m. m + n) e ∙ ap (λ m. length front + m) (sym l) ∙ sym (length-append front w)

abbrev waiting_words : List Value → List ℕ
waiting_words vs = flat_map (λ v. to_be_bytes w32 (waiting_word v)) vs

abbrev filled_words : (List ℕ → ℕ) → List Value → List ℕ
filled_words value vs = flat_map (λ v. to_be_bytes w32 (filled_word value v)) vs

-- the words of a `.word`
values_law : (value : List ℕ → ℕ) (base : ℕ → ℕ) (k s offset line : ℕ) (vs : List Value) (front back : List ℕ) → (s == k) ≡ true → offset ≡ length front
    → relocated value base k (uses_in_values s offset line vs) (front ++ (waiting_words vs ++ back)) ≡ front ++ (filled_words value vs ++ back)
values_law value base k s offset line [] front back h e = refl
values_law value base k s offset line (word.Number n ∷ vs) front back h e =
    next_piece (relocated value base k (uses_in_values s (offset + 4) line vs)) front (to_be_bytes w32 n) (waiting_words vs) (filled_words value vs) back
    (values_law value base k s (offset + 4) line vs (front ++ to_be_bytes w32 n) back h (more_behind front (to_be_bytes w32 n) offset 4 e refl))
values_law value base k s offset line (word.Symbol f ∷ vs) front back h e =
    let t = target value f in
    let rest = waiting_words vs ++ back in
    ap (relocated value base k (uses_in_values s (offset + 4) line vs))
    (cond-true (s == k) _ _ h
    ∙ ap (λ n. patched Abs32 (front ++ ((to_be_bytes w32 0 ++ waiting_words vs) ++ back)) n t (base k + offset)) e
    ∙ ap (λ x. patched Abs32 (front ++ x) (length front) t (base k + offset)) (append_assoc (to_be_bytes w32 0) (waiting_words vs) back)
    ∙ patched_number Abs32 front rest 0 t (base k + offset) (lit< tt)
    ∙ ap (λ m. front ++ (to_be_bytes w32 m ++ rest)) (patched_zero t (base k + offset))
    ∙ sym (ap (λ x. front ++ x) (append_assoc (to_be_bytes w32 t) (waiting_words vs) back)))
    ∙ next_piece (relocated value base k (uses_in_values s (offset + 4) line vs)) front (to_be_bytes w32 t) (waiting_words vs) (filled_words value vs) back
    (values_law value base k s (offset + 4) line vs (front ++ to_be_bytes w32 t) back h (more_behind front (to_be_bytes w32 t) offset 4 e refl))

target_bound : (value : List ℕ → ℕ) (f : Fixup) → target value f < 2 ^ 32
target_bound value f = mod_below (value f.symbol + f.addend) (2 ^ 32) (lit< tt)

-- a statement in its section
body_law : (value : List ℕ → ℕ) (base : ℕ → ℕ) (k s offset line place : ℕ) (b : Body) (front back : List ℕ) → IsFormedBody b → (s == k) ≡ true → s ≡ k
    → offset ≡ length front → AreInReach value base (uses_in_body s offset line b)
    → relocated value base k (uses_in_body s offset line b) (front ++ (waiting_bytes place b ++ back))
    ≡ front ++ (filled_bytes value (base s + offset) place b ++ back)
body_law value base k s offset line place (body.Word vs) front back f h i e r = values_law value base k s offset line vs front back h e
body_law value base k s offset line place (body.Code instr None) front back f h i e r = refl
body_law value base k s offset line place (body.Code instr (Some x)) front back f h i e r =
    let t = target value x in
    let bytes = front ++ (to_be_bytes w32 (word_of instr) ++ back) in
    cond-true (s == k) _ _ h
    ∙ ap (λ n. patched x.kind bytes n t (base k + offset)) e
    ∙ patched_number x.kind front back (word_of instr) t (base k + offset) (waiting_bound instr x.kind f.0 f.1)
    ∙ ap (λ j. front ++ (to_be_bytes w32 (patched_word x.kind (word_of instr) t (base j + offset)) ++ back)) (sym i)
    ∙ ap (λ m. front ++ (to_be_bytes w32 m ++ back)) (sym (field_law instr x.kind t (base s + offset) f.0 f.1 (target_bound value x) r.0).1)
body_law value base k s offset line place _ front back f h i e r = refl

-- lengths of what statements give
length-waiting_words : (vs : List Value) → length (waiting_words vs) ≡ 4 * length vs
length-waiting_words [] = refl
length-waiting_words (v ∷ vs) = omega (arith, length-append (to_be_bytes w32 (waiting_word v)) (waiting_words vs), length-waiting_words vs)

length-filled_words : (value : List ℕ → ℕ) (vs : List Value) → length (filled_words value vs) ≡ 4 * length vs
length-filled_words value [] = refl
length-filled_words value (v ∷ vs) = omega (arith, length-append (to_be_bytes w32 (filled_word value v)) (filled_words value vs), length-filled_words value vs)

length-halves : (ns : List ℕ) → length (flat_map (λ n. to_be_bytes w16 n) ns) ≡ 2 * length ns
length-halves [] = refl
length-halves (n ∷ ns) = omega (arith, length-append (to_be_bytes w16 n) (flat_map (λ m. to_be_bytes w16 m) ns), length-halves ns)

pub length-waiting_bytes : (place : ℕ) (b : Body) → length (waiting_bytes place b) ≡ length_at place b
length-waiting_bytes place (body.Word vs) = length-waiting_words vs
length-waiting_bytes place (body.Half ns) = length-halves ns
length-waiting_bytes place (body.Zero n) = length-replicate n 0
length-waiting_bytes place (body.Align n) = length-replicate (padding n place) 0
length-waiting_bytes place _ = refl

pub length-filled_bytes : (value : List ℕ → ℕ) (address place : ℕ) (b : Body) → length (filled_bytes value address place b) ≡ length_at place b
length-filled_bytes value address place (body.Word vs) = length-filled_words value vs
length-filled_bytes value address place (body.Half ns) = length-halves ns
length-filled_bytes value address place (body.Zero n) = length-replicate n 0
length-filled_bytes value address place (body.Align n) = length-replicate (padding n place) 0
length-filled_bytes value address place _ = refl

-- what a statement gives to section k, its symbols replaced
abbrev pub filled_at : (List ℕ → ℕ) → (ℕ → ℕ) → ℕ → Located → List ℕ
filled_at value base k r =
    if section_of r == k then filled_bytes value (base (section_of r) + offset_of r) (place_of r) r.statement.body else []

one_law : (value : List ℕ → ℕ) (base : ℕ → ℕ) (k : ℕ) (r : Located) (front back : List ℕ) → IsFormedStatement r.statement
    → r.before.lengths k ≡ length front → AreInReach value base (symbol_uses r)
    → relocated value base k (symbol_uses r) (front ++ (waiting_in k r ++ back)) ≡ front ++ (filled_at value base k r ++ back)
one_law value base k r front back f e h =
    let s = section_of r in
    let w = waiting_bytes (place_of r) r.statement.body in
    let z = filled_bytes value (base s + offset_of r) (place_of r) r.statement.body in
    elim (cases_Bool (s == k)) [
      | inl t ↦ ap (λ x. relocated value base k (symbol_uses r) (front ++ (x ++ back))) (cond-true (s == k) w [] t)
          ∙ body_law value base k s (offset_of r) r.statement.line (place_of r) r.statement.body front back f t (eqb-true s k t)
          (ap r.before.lengths (eqb-true s k t) ∙ e) h
          ∙ ap (λ x. front ++ (x ++ back)) (sym (cond-true (s == k) z [] t))
      | inr t ↦ ap (λ x. relocated value base k (symbol_uses r) (front ++ (x ++ back))) (cond-false (s == k) w [] t)
          ∙ elsewhere value base k s (offset_of r) r.statement.line r.statement.body (front ++ back) t
          ∙ ap (λ x. front ++ (x ++ back)) (sym (cond-false (s == k) z [] t))
    ]

-- a statement's section grows by its bytes
pub grows : (value : List ℕ → ℕ) (base : ℕ → ℕ) (k : ℕ) (r : Located)
    → (after r.before r.statement.body).lengths k ≡ r.before.lengths k + length (filled_at value base k r)
grows value base k r =
    let s = section_of r in
    let z = filled_bytes value (base s + offset_of r) (place_of r) r.statement.body in
    elim (cases_Bool (s == k)) [
      | inl t ↦ cond-true (s == k) _ _ t
          ∙ ap (λ j. r.before.lengths j + length_of r) (eqb-true s k t)
          ∙ ap (λ n. r.before.lengths k + n) (sym (length-filled_bytes value (base s + offset_of r) (place_of r) r.statement.body))
          ∙ ap (λ x. r.before.lengths k + length x) (sym (cond-true (s == k) z [] t))
      | inr t ↦ cond-false (s == k) _ _ t
          ∙ sym (add-zero (r.before.lengths k))
          ∙ ap (λ x. r.before.lengths k + length x) (sym (cond-false (s == k) z [] t))
    ]

abbrev pub AllFormed : List Statement → Type 0
AllFormed [] = Unit {0}
AllFormed (x ∷ xs) = IsFormedStatement x × AllFormed xs

-- all statements from counters on, behind the bytes that section k has
pub rows_law : (value : List ℕ → ℕ) (base : ℕ → ℕ) (k : ℕ) (c : Counters) (xs : List Statement) (front : List ℕ) → AllFormed xs
    → c.lengths k ≡ length front → AreInReach value base (flat_map symbol_uses (located c xs))
    → relocated value base k (flat_map symbol_uses (located c xs)) (front ++ flat_map (waiting_in k) (located c xs))
    ≡ front ++ flat_map (filled_at value base k) (located c xs)
unfolding located
rows_law value base k c [] front f e h = refl
rows_law value base k c (x ∷ xs) front f e h =
    let r : Located = record { before = c; statement = x } in
    let rest = located (after c x.body) xs in
    let z = filled_at value base k r in
    relocated-append value base k (symbol_uses r) (flat_map symbol_uses rest) _
    ∙ ap (relocated value base k (flat_map symbol_uses rest))
    (one_law value base k r front (flat_map (waiting_in k) rest) f.0 e (in_reach_left value base (symbol_uses r) _ h) ∙ sym (append_assoc front z _))
    ∙ rows_law value base k (after c x.body) xs (front ++ z) f.1
    (grows value base k r ∙ ap (λ n. n + length z) e ∙ sym (length-append front z)) (in_reach_right value base (symbol_uses r) _ h)
    ∙ append_assoc front z _
