-- The object of a module without a fault is sound.
use Rattle.std.proofs.Common.{ℕ, suc, Bool, true, false, ◌≡◌, ◌+◌, ◌*◌, ◌%◌, ◌<◌, ◌≤◌, List, [], ◌∷◌, ◌++◌, length, get_or, map, Option, Some, None, refl, sym, ◌∙◌, ap, subst, arith}
use Rattle.std.specs.Prelude.{flat_map, ◌==◌, if◌then◌else◌, bytes_eq, slice_get, IfSome, IsSomeAnd}
use Rattle.std.specs.List.{All, enumerate_from, list_any}
use Rattle.std.specs.Option.{option_map, option_or}
use Rattle.std.proofs.lemmas.Bool.{cond-true, cond-false, cond_both, eqb-true, eq-eqb, ne_eqb, or_left}
use Rattle.std.proofs.lemmas.List.Elements.{All-append, All-cons, All-map}
use Rattle.std.proofs.lemmas.List.{map-append}
use Rattle.std.proofs.lemmas.Option.{slice_get-get_or}
use Rattle.std.proofs.lemmas.Slice.Eq.{bytes_eq-Decides}
use Rattle.m88_parse.specs.declared.unit.Body.{Body}
use Rattle.m88_parse.specs.declared.unit.Body.TheVariants as body
use Rattle.m88_parse.specs.declared.unit.Module.{Module}
use Rattle.m88_parse.specs.declared.unit.Statement.{Statement}
use Rattle.m88_parse.specs.declared.unit.Value.{Value}
use Rattle.m88_parse.specs.declared.unit.Value.TheVariants as word
use Rattle.m88_link.specs.declared.object.Object.{Object}
use Rattle.m88_link.specs.declared.object.Reloc.{Reloc}
use Rattle.m88_link.specs.declared.object.Section.{Section}
use Rattle.m88_link.specs.declared.object.Symbol.{Symbol}
use Rattle.m88_link.specs.Sound.{AreSections, HasRoom, IsDefinedIn, IsOwnAddress, IsPatchIn, IsGlobalIfStart, IsSound, origin, start_name}
use Rattle.m88_link.specs.Symbols.{Repetition, first_repeated, repeated_after, repetition, symbol_of}
use Rattle.m88_asm.specs.Counters.{Counters, Located, with_length, after, at_begin, at_section, length_at, located, offset_here, place_here}
use Rattle.m88_asm.specs.Inside.Drafts.{Growth, HasSections, counters_of, empty_growth, no_section, nth, with_statement, with_statements}
use Rattle.m88_asm.specs.Faults.{alignment_of, fault_in, statements_fault, misfit_at, misplaced_at, module_fault, too_large_at}
use Rattle.m88_asm.specs.Objects.{Head, labels_at, lines_in, marked, object_of, opened_by, opens, section_under, sections_in, sets_at, symbols_of, uses_in_body, uses_in_values, symbol_uses}
use Rattle.m88_asm.proofs.Assembling.{counters_empty, counters_next, grown_object, none_of_both, open_next}

-- the section that stands is one of those that are
pub record Stands (c : Counters) : Type 0 where
  pub both : 2 ≤ c.count
  pub here : c.here < c.count

-- sections stay where they are, and only grow
pub record Extends (c d : Counters) : Type 0 where
  pub count : c.count ≤ d.count
  pub starts : (k : ℕ) → k < c.count → d.starts k ≡ c.starts k
  pub lengths : (k : ℕ) → c.lengths k ≤ d.lengths k

pub entered_stands : (c : Counters) (b : Body) → Stands c → Stands (at_section c b)
entered_stands c body.Text s = record { both = s.both; here = omega (arith, s.both) }
entered_stands c body.DataSection s = record { both = s.both; here = omega (arith, s.both) }
entered_stands c (body.At a) s = record { both = omega (arith, s.both); here = omega arith }
entered_stands c _ s = s

entered_extends : (c : Counters) (b : Body) → Extends c (at_section c b)
entered_extends c (body.At a) = record {
  count = omega arith;
  starts = λ k h. let n : (c.count ≡ k → ⊥) = λ e. omega arith in cond-false (c.count == k) a (c.starts k) (ne_eqb _ _ n);
  lengths = λ k. omega arith;
}
entered_extends c _ = record { count = omega arith; starts = λ k h. refl; lengths = λ k. omega arith }

pub longer_extends : (c : Counters) (n : ℕ) → Extends c (with_length c n)
longer_extends c n = record {
  count = omega arith;
  starts = λ k h. refl;
  lengths = λ k. cond_both (c.here == k) (c.lengths c.here + n) (c.lengths k) (λ m. c.lengths k ≤ m)
      (λ t. let e = ap c.lengths (eqb-true c.here k t) in omega arith) (λ f. omega arith);
}

extends-trans : (a b c : Counters) → Extends a b → Extends b c → Extends a c
extends-trans a b c p q = record {
  count = omega (arith, p.count, q.count);
  starts = λ k h. q.starts k (omega (arith, p.count)) ∙ p.starts k h;
  lengths = λ k. omega (arith, p.lengths k, q.lengths k);
}

pub after_stands : (c : Counters) (b : Body) → Stands c → Stands (after c b)
after_stands c b s = let t = entered_stands c b s in record { both = t.both; here = t.here }

after_extends : (c : Counters) (b : Body) → Extends c (after c b)
after_extends c b = extends-trans c (at_section c b) (after c b) (entered_extends c b) (longer_extends (at_section c b) (length_at (place_here (at_section c b)) b))

-- counters behind statements
unfoldable pub counters_after : Counters → List Statement → Counters
counters_after c [] = c
counters_after c (x ∷ xs) = counters_after (after c x.body) xs

pub after_all_extends : (c : Counters) (xs : List Statement) → Extends c (counters_after c xs)
unfolding counters_after
after_all_extends c [] = record { count = omega arith; starts = λ k h. refl; lengths = λ k. omega arith }
after_all_extends c (x ∷ xs) = extends-trans c (after c x.body) (counters_after (after c x.body) xs) (after_extends c x.body) (after_all_extends (after c x.body) xs)

-- where a use and a symbol are in order
PatchAt : Counters → Reloc → Type 0
PatchAt c u = (u.section < c.count) × (u.offset + 4 ≤ c.lengths u.section) × ((c.starts u.section + u.offset) % 4 ≡ 0)

DefinedAt : Counters → Symbol → Type 0
DefinedAt c s = IfSome s.section (λ k. (k < c.count) × (s.value ≤ c.lengths k))

patch_extends : (c d : Counters) (u : Reloc) → Extends c d → PatchAt c u → PatchAt d u
unfolding PatchAt
patch_extends c d u e h = (
  omega (arith, e.count, h.0),
  omega (arith, e.lengths u.section, h.1),
  ap (λ n. (n + u.offset) % 4) (e.starts u.section h.0) ∙ h.2,
)

defined_extends : (c d : Counters) (s : Symbol) → Extends c d → DefinedAt c s → DefinedAt d s
unfolding DefinedAt
defined_extends c d s e h = by s.section h
  where
    by : (o : Option ℕ) → IfSome o (λ k. (k < c.count) × (s.value ≤ c.lengths k)) → IfSome o (λ k. (k < d.count) × (s.value ≤ d.lengths k))
    by None h = h
    by (Some k) h = (omega (arith, e.count, h.0), omega (arith, e.lengths k, h.1))

none_of : {X : Type 0} (P : X → Type 0) → All P []
none_of P = λ k d h. absurd (omega arith)

-- the uses of a statement that fits
values_patch : (c : Counters) (number line : ℕ) (vs : List Value) (offset : ℕ) → number < c.count → offset + 4 * length vs ≤ c.lengths number
    → (c.starts number + offset) % 4 ≡ 0 → All (PatchAt c) (uses_in_values number offset line vs)
unfolding PatchAt
values_patch c number line [] offset h l a = none_of (PatchAt c)
values_patch c number line (word.Number n ∷ vs) offset h l a = values_patch c number line vs (offset + 4) h (omega arith) (omega arith)
values_patch c number line (word.Symbol f ∷ vs) offset h l a =
    All-cons (PatchAt c) _ _ (h, omega arith, a) (values_patch c number line vs (offset + 4) h (omega arith) (omega arith))

body_patch : (c : Counters) (number line : ℕ) (b : Body) (offset : ℕ) → number < c.count → offset + length_at (c.starts number + offset) b ≤ c.lengths number
    → (c.starts number + offset) % alignment_of b ≡ 0 → All (PatchAt c) (uses_in_body number offset line b)
unfolding PatchAt
body_patch c number line (body.Word vs) offset h l a = values_patch c number line vs offset h l a
body_patch c number line (body.Code i None) offset h l a = none_of (PatchAt c)
body_patch c number line (body.Code i (Some f)) offset h l a = All-cons (PatchAt c) _ [] (h, l, a) (none_of (PatchAt c))
body_patch c number line _ offset h l a = none_of (PatchAt c)

pub no_fault_else : {A : Type 0} (b : Bool) (x : A) → (if b then None else Some x) ≡ None → b ≡ true
no_fault_else true x h = refl
no_fault_else false x h = cc

row_patch : (c : Counters) (x : Statement) → Stands c → misfit_at (offset_here (at_section c x.body)) (place_here (at_section c x.body)) x ≡ None
    → All (PatchAt (after c x.body)) (symbol_uses (record { before = c; statement = x }))
row_patch c x s h =
    let e = at_section c x.body in
    let t = entered_stands c x.body s in
    let n = length_at (place_here e) x.body in
    let a = no_fault_else _ _ (none_of_both (misplaced_at (place_here e) x) (too_large_at (offset_here e) (place_here e) x) h).0 in
    body_patch (after c x.body) e.here x.line x.body (offset_here e) t.here
    (let l : (after c x.body).lengths e.here ≡ e.lengths e.here + n = cond-true (e.here == e.here) _ _ (eq-eqb e.here e.here refl) in omega arith)
    (eqb-true _ 0 a)

label_defined : (c : Counters) (line : ℕ) (label : Option (List ℕ × ℕ)) → Stands c → All (DefinedAt c) (labels_at c line label)
unfolding DefinedAt
label_defined c line None s = none_of (DefinedAt c)
label_defined c line (Some l) s = All-cons (DefinedAt c) _ [] (s.here, omega arith) (none_of (DefinedAt c))

set_defined : (c : Counters) (line : ℕ) (b : Body) → All (DefinedAt c) (sets_at line b)
unfolding DefinedAt
set_defined c line (body.Set name col value) = All-cons (DefinedAt c) _ [] tt (none_of (DefinedAt c))
set_defined c line _ = none_of (DefinedAt c)

row_defined : (c : Counters) (x : Statement) → Stands c → All (DefinedAt c) (symbols_of (record { before = c; statement = x }))
row_defined c x s = All-append (DefinedAt c) (labels_at c x.line x.label) (sets_at x.line x.body) (label_defined c x.line x.label s) (set_defined c x.line x.body)

-- all statements
pub first_parts : (defined : List Symbol) (c : Counters) (x : Statement) (xs : List Statement) → statements_fault defined (located c (x ∷ xs)) ≡ None
    → (fault_in defined (record { before = c; statement = x }) ≡ None)
    × (statements_fault (defined ++ symbols_of (record { before = c; statement = x })) (located (after c x.body) xs) ≡ None)
unfolding statements_fault located
first_parts defined c x xs h = none_of_both _ _ h

rows_sound : (defined : List Symbol) (c : Counters) (xs : List Statement) → Stands c → statements_fault defined (located c xs) ≡ None
    → All (PatchAt (counters_after c xs)) (flat_map symbol_uses (located c xs)) × All (DefinedAt (counters_after c xs)) (flat_map symbols_of (located c xs))
unfolding counters_after located
rows_sound defined c [] s h = (none_of (PatchAt c), none_of (DefinedAt c))
rows_sound defined c (x ∷ xs) s h =
    let r : Located = record { before = c; statement = x } in
    let parts = first_parts defined c x xs h in
    let misfit = (none_of_both (option_map _ (repeated_after defined (symbols_of r))) (misfit_at (offset_here (at_section c x.body)) (place_here (at_section c x.body)) x) parts.0).1 in
    let rest = rows_sound (defined ++ symbols_of r) (after c x.body) xs (after_stands c x.body s) parts.1 in
    let end = counters_after (after c x.body) xs in
    let tail = after_all_extends (after c x.body) xs in (
      All-append (PatchAt end) (symbol_uses r) _ (λ k d l. patch_extends (after c x.body) end _ tail (row_patch c x s misfit k d l)) rest.0,
      All-append (DefinedAt end) (symbols_of r) _
          (λ k d l. defined_extends c end _ (extends-trans c (after c x.body) end (after_extends c x.body) tail) (row_defined c x s k d l)) rest.1,
    )

-- the counters of what statements grow to
pub counters_grown : (g : Growth) (xs : List Statement) → HasSections g.sections g.here
    → counters_of (with_statements g xs).sections (with_statements g xs).here ≡ counters_after (counters_of g.sections g.here) xs
unfolding with_statements counters_after
counters_grown g [] o = refl
counters_grown g (x ∷ xs) o = counters_grown (with_statement g x) xs (open_next g x o) ∙ ap (λ c. counters_after c xs) (counters_next g x o)

patch_in : (sections : List Section) (here : ℕ) (u : Reloc) → PatchAt (counters_of sections here) u → IsPatchIn sections u
unfolding PatchAt
patch_in sections here u h =
    subst (λ o. IsSomeAnd o (λ (s : Section). (u.offset + 4 ≤ length s.bytes) × ((origin s.place + u.offset) % 4 ≡ 0)))
    (sym (slice_get-get_or sections u.section no_section h.0)) (h.1, h.2)

defined_in : (sections : List Section) (here : ℕ) (s : Symbol) → DefinedAt (counters_of sections here) s → IsDefinedIn sections s
unfolding DefinedAt
defined_in sections here s h = by s.section h
  where
    by : (o : Option ℕ) → IfSome o (λ k. (k < length sections) × (s.value ≤ length (nth sections k).bytes))
        → IfSome o (λ k. IsSomeAnd (slice_get sections k) (λ x. s.value ≤ length x.bytes))
    by None h = h
    by (Some k) h = subst (λ o. IsSomeAnd o (λ (x : Section). s.value ≤ length x.bytes)) (sym (slice_get-get_or sections k no_section h.0)) h.1

-- the other parts of soundness
own_opened : (line : ℕ) (b : Body) → All (λ (h : Head). IsOwnAddress h.place) (opened_by line b)
own_opened line (body.At a) = All-cons (λ (h : Head). IsOwnAddress h.place) _ [] tt (none_of (λ (h : Head). IsOwnAddress h.place))
own_opened line _ = none_of (λ (h : Head). IsOwnAddress h.place)

own_opens : (rs : List Located) → All (λ (h : Head). IsOwnAddress h.place) (flat_map opens rs)
own_opens [] = none_of (λ (h : Head). IsOwnAddress h.place)
own_opens (r ∷ rs) = All-append (λ (h : Head). IsOwnAddress h.place) (opens r) _ (own_opened r.statement.line r.statement.body) (own_opens rs)

own_sections : (m : Module) (n : ℕ) (hs : List Head) → All (λ (h : Head). IsOwnAddress h.place) hs
    → All (λ (s : Section). IsOwnAddress s.place) (map (section_under m) (enumerate_from n hs))
own_sections m n [] a = none_of (λ (s : Section). IsOwnAddress s.place)
own_sections m n (h ∷ hs) a =
    All-cons (λ (s : Section). IsOwnAddress s.place) _ _ (a 0 h (omega arith)) (own_sections m (n + 1) hs (λ k d l. a (suc k) d (omega arith)))

are_sections : (m : Module) → AreSections (sections_in m)
are_sections m = (refl, refl, own_sections m 2 (flat_map opens (lines_in m)) (own_opens (lines_in m)))

seen_at_start : (xs : List Statement) (ss : List Symbol) → All IsGlobalIfStart (map (marked xs) ss)
seen_at_start xs ss = All-map IsGlobalIfStart (marked xs) ss
    (λ k d l e. or_left (bytes_eq (get_or ss k d).name start_name) (list_any _ xs) ((bytes_eq-Decides (get_or ss k d).name start_name).1 e))

-- a mark changes no name
symbol_of-marked : (xs : List Statement) (ss : List Symbol) (name : List ℕ) → symbol_of ss name ≡ None → symbol_of (map (marked xs) ss) name ≡ None
symbol_of-marked xs [] name h = refl
symbol_of-marked xs (s ∷ ss) name h = by (bytes_eq name s.name) h (symbol_of-marked xs ss name)
  where
    by : (b : Bool) → (if b then Some s else symbol_of ss name) ≡ None → (symbol_of ss name ≡ None → symbol_of (map (marked xs) ss) name ≡ None)
        → (if b then Some (marked xs s) else symbol_of (map (marked xs) ss) name) ≡ None
    by true h rest = cc
    by false h rest = rest h

-- a symbol as a repetition of one before it
abbrev again : Symbol → Symbol → Repetition
again s f = record { symbol = s; first = f.line }

option_map-none : {A B : Type 0} (f : A → B) (o : Option A) → option_map f o ≡ None → o ≡ None
option_map-none f None h = refl
option_map-none f (Some x) h = cc

repeated-marked : (xs : List Statement) (before ss : List Symbol) → repeated_after before ss ≡ None → repeated_after (map (marked xs) before) (map (marked xs) ss) ≡ None
repeated-marked xs before [] h = refl
repeated-marked xs before (s ∷ ss) h =
    let parts = none_of_both (repetition before s) (repeated_after (before ++ s ∷ []) ss) h in
    let none = symbol_of-marked xs before s.name (option_map-none (again s) (symbol_of before s.name) parts.0) in
    ap (λ o. option_or (option_map (again (marked xs s)) o) (repeated_after (map (marked xs) before ++ marked xs s ∷ []) (map (marked xs) ss))) none
    ∙ ap (λ b. repeated_after b (map (marked xs) ss)) (sym (map-append (marked xs) before (s ∷ [])))
    ∙ repeated-marked xs (before ++ s ∷ []) ss parts.1

pub sound_object : (m : Module) → module_fault m ≡ None → first_repeated (flat_map symbols_of (lines_in m)) ≡ None → All HasRoom (sections_in m) → IsSound (object_of m)
sound_object m clean names room =
    let start = empty_growth m.line in
    let end = with_statements start m.statements in
    let opened : HasSections start.sections start.here = record { both = omega arith; stands = omega arith } in
    let same : end.sections ≡ sections_in m = ap (λ (o : Object). o.sections) (grown_object m) in
    let counters : counters_of end.sections end.here ≡ counters_after at_begin m.statements =
    counters_grown start m.statements opened ∙ ap (λ c. counters_after c m.statements) (counters_empty m.line) in
    let rows = rows_sound [] at_begin m.statements (record { both = omega arith; here = omega arith }) clean in
    let patches : All (IsPatchIn end.sections) (flat_map symbol_uses (lines_in m)) =
    λ k d l. patch_in end.sections end.here _ (subst (λ c. PatchAt c (get_or (flat_map symbol_uses (lines_in m)) k d)) (sym counters) (rows.0 k d l)) in
    let defined : All (IsDefinedIn end.sections) (flat_map symbols_of (lines_in m)) =
    λ k d l. defined_in end.sections end.here _ (subst (λ c. DefinedAt c (get_or (flat_map symbols_of (lines_in m)) k d)) (sym counters) (rows.1 k d l)) in
    record {
      sections = are_sections m;
      room = room;
      symbols = All-map (IsDefinedIn (sections_in m)) (marked m.statements) (flat_map symbols_of (lines_in m))
          (subst (λ xs. All (IsDefinedIn xs) (flat_map symbols_of (lines_in m))) same defined);
      relocs = subst (λ xs. All (IsPatchIn xs) (flat_map symbol_uses (lines_in m))) same patches;
      names = repeated-marked m.statements [] (flat_map symbols_of (lines_in m)) names;
      start = seen_at_start m.statements (flat_map symbols_of (lines_in m));
    }
