-- What the sections of an accepted unit have at an address is what its statements give there.
use Rattle.std.proofs.Common.{ℕ, zero, suc, Bool, true, false, ◌≡◌, ◌+◌, ◌<◌, ◌≤◌, ◌⊎◌, inl, inr, List, [], ◌∷◌, ◌++◌, length, map, Option, Some, None, refl, sym, ◌∙◌, ap, subst, append_assoc, arith, cond, length-append, add-zero, zero-add}
use Rattle.std.specs.Prelude.{flat_map, ◌==◌, if◌then◌else◌, slice_get, sum_by}
use Rattle.std.specs.List.{enumerate_from}
use Rattle.std.specs.Option.{option_map_or, option_or}
use Rattle.std.proofs.lemmas.Bool.{cases_Bool, cond-true, cond-false, eq-eqb, eqb-true}
use Rattle.std.proofs.lemmas.Bool.Decides.{leb_tells, nat_tests}
use Rattle.std.proofs.lemmas.List.{append-nil}
use Rattle.std.proofs.lemmas.List.Sums.{sum_by-cons}
use Rattle.std.proofs.lemmas.List.Concat.{length-flat_map}
use Rattle.std.proofs.Math.Path.{fun_ext}
use Rattle.m88_base.proofs.Laws.{byte_among-append, byte_in-join, byte_in_above, byte_in_below, option_or-none, option_or_assoc}
use Rattle.m88_base.specs.Placed.{Placed, byte_among, byte_in}
use Rattle.m88_parse.specs.declared.unit.Body.{Body}
use Rattle.m88_parse.specs.declared.unit.Body.TheVariants as body
use Rattle.m88_parse.specs.declared.unit.Statement.{Statement}
use Rattle.m88_link.specs.declared.object.Symbol.{Symbol}
use Rattle.m88_link.specs.Layout.{Extent}
use Rattle.m88_link.specs.Refusal.{AreDisjoint, covers, hits}
use Rattle.m88_asm.specs.Counters.{Counters, Located, after, at_begin, located, offset_of, place_of, section_of}
use Rattle.m88_asm.specs.Images.{run_of, runs_in}
use Rattle.m88_asm.specs.Objects.{Head, heads_in, lines_in, opened_by, opens}
use Rattle.m88_link.specs.Bases.{Placement, base_at}
use Rattle.m88_parse.specs.declared.unit.Module.{Module}
use Rattle.m88_asm.specs.Units.{address_in, base_in, bytes_of, extent_under, extents_in, filled_in, filled_section, length_in, section_length, spot_under, spots_in, value_in_module}
use Rattle.m88_asm.proofs.Relocating.{grows, length-filled_bytes}
use Rattle.m88_asm.proofs.Sounding.{Stands, after_stands, entered_stands}

-- some run has this byte at an address
unfoldable pub Has : List Placed → ℕ → ℕ → Type 0
Has [] a v = ⊥
Has (p ∷ ps) a v = (byte_in p a ≡ Some v) ⊎ Has ps a v

pub has_left : (ps qs : List Placed) (a v : ℕ) → Has ps a v → Has (ps ++ qs) a v
unfolding Has
has_left [] qs a v h = absurd h
has_left (p ∷ ps) qs a v (inl h) = inl h
has_left (p ∷ ps) qs a v (inr h) = inr (has_left ps qs a v h)

pub has_right : (ps qs : List Placed) (a v : ℕ) → Has qs a v → Has (ps ++ qs) a v
unfolding Has
has_right [] qs a v h = h
has_right (p ∷ ps) qs a v h = inr (has_right ps qs a v h)

has_either : (ps qs : List Placed) (a v : ℕ) → Has (ps ++ qs) a v → Has ps a v ⊎ Has qs a v
unfolding Has
has_either [] qs a v h = inr h
has_either (p ∷ ps) qs a v (inl h) = inl (inl h)
has_either (p ∷ ps) qs a v (inr h) = elim (has_either ps qs a v h) [ inl l ↦ inl (inr l) | inr r ↦ inr r ]

pub either_some : (o q : Option ℕ) (v : ℕ) → option_or o q ≡ Some v → (o ≡ Some v) ⊎ (q ≡ Some v)
either_some (Some x) q v h = inl h
either_some None q v h = inr h

found_has : (ps : List Placed) (a v : ℕ) → byte_among ps a ≡ Some v → Has ps a v
unfolding Has
found_has [] a v h = cc
found_has (p ∷ ps) a v h = elim (either_some (byte_in p a) (byte_among ps a) v h) [ inl e ↦ inl e | inr e ↦ inr (found_has ps a v e) ]

both_none : (o q : Option ℕ) → option_or o q ≡ None → (o ≡ None) × (q ≡ None)
both_none None q h = (refl, h)
both_none (Some x) q h = cc

pub some_none : (o : Option ℕ) (v : ℕ) → o ≡ None → o ≡ Some v → ⊥
some_none o v n h = cc

none_has : (ps : List Placed) (a v : ℕ) → byte_among ps a ≡ None → Has ps a v → ⊥
unfolding Has
none_has [] a v n h = h
none_has (p ∷ ps) a v n (inl h) = some_none (byte_in p a) v (both_none (byte_in p a) (byte_among ps a) n).0 h
none_has (p ∷ ps) a v n (inr h) = none_has ps a v (both_none (byte_in p a) (byte_among ps a) n).1 h

from_below : (p : Placed) (a v : ℕ) → byte_in p a ≡ Some v → p.at ≤ a
from_below p a v h = elim (leb_tells p.at a) [ inl l ↦ l.1 | inr l ↦ absurd (some_none (byte_in p a) v (byte_in_below p a l.1) h) ]

within : (p : Placed) (a v : ℕ) → byte_in p a ≡ Some v → a < p.at + length p.bytes
within p a v h = elim (leb_tells (p.at + length p.bytes) a) [ inl l ↦ absurd (some_none (byte_in p a) v (byte_in_above p a l.1) h) | inr l ↦ l.1 ]

-- the runs of section k
abbrev run_in : List Symbol → Placement Module → ℕ → Located → List Placed
run_in globals b k r = if section_of r == k then run_of globals b r ∷ [] else []

longer : (globals : List Symbol) (b : Placement Module) (k : ℕ) (r : Located) (front : List ℕ) → r.before.lengths k ≡ length front
    → (after r.before r.statement.body).lengths k ≡ length (front ++ filled_in globals b k r)
longer globals b k r front e =
    grows (value_in_module globals b) (base_in b) k r ∙ ap (λ n. n + length (filled_in globals b k r)) e ∙ sym (length-append front (filled_in globals b k r))

one_found : (globals : List Symbol) (b : Placement Module) (k a : ℕ) (r : Located) (front : List ℕ) → r.before.lengths k ≡ length front
    → byte_in (record { at = base_in b k; bytes = front ++ filled_in globals b k r }) a
    ≡ option_or (byte_in (record { at = base_in b k; bytes = front }) a) (byte_among (run_in globals b k r) a)
one_found globals b k a r front e =
    let s = section_of r in
    let w = bytes_of globals b r in
    let before = byte_in (record { at = base_in b k; bytes = front }) a in
    elim (cases_Bool (s == k)) [
      | inl t ↦
          let j = eqb-true s k t in
          let at : base_in b s + offset_of r ≡ base_in b k + length front =
          ap (λ n. base_in b n + r.before.lengths n) j ∙ ap (λ n. base_in b k + n) e in
          ap (λ y. let p : Placed = record { at = base_in b k; bytes = front ++ y } in byte_in p a) (cond-true (s == k) w [] t)
          ∙ byte_in-join (base_in b k) front w (base_in b s + offset_of r) a (sym at)
          ∙ ap (λ o. option_or before o) (sym (option_or-none (byte_in (run_of globals b r) a)))
          ∙ ap (λ ps. option_or before (byte_among ps a)) (sym (cond-true (s == k) (run_of globals b r ∷ []) [] t))
      | inr t ↦
          ap (λ y. let p : Placed = record { at = base_in b k; bytes = front ++ y } in byte_in p a) (cond-false (s == k) w [] t)
          ∙ ap (λ y. let p : Placed = record { at = base_in b k; bytes = y } in byte_in p a) (append-nil front)
          ∙ sym (option_or-none before)
          ∙ ap (λ ps. option_or before (byte_among ps a)) (sym (cond-false (s == k) (run_of globals b r ∷ []) [] t))
    ]

-- a section's bytes are those of its statements
section_found : (globals : List Symbol) (b : Placement Module) (k a : ℕ) (c : Counters) (xs : List Statement) (front : List ℕ) → c.lengths k ≡ length front
    → byte_in (record { at = base_in b k; bytes = front ++ flat_map (filled_in globals b k) (located c xs) }) a
    ≡ option_or (byte_in (record { at = base_in b k; bytes = front }) a) (byte_among (flat_map (run_in globals b k) (located c xs)) a)
unfolding located
section_found globals b k a c [] front e =
    ap (λ x. let p : Placed = record { at = base_in b k; bytes = x } in byte_in p a) (append-nil front)
    ∙ sym (option_or-none (byte_in (record { at = base_in b k; bytes = front }) a))
section_found globals b k a c (x ∷ xs) front e =
    let r : Located = record { before = c; statement = x } in
    let w = filled_in globals b k r in
    let rest = located (after c x.body) xs in
    ap (λ y. let p : Placed = record { at = base_in b k; bytes = y } in byte_in p a) (sym (append_assoc front w (flat_map (filled_in globals b k) rest)))
    ∙ section_found globals b k a (after c x.body) xs (front ++ w) (longer globals b k r front e)
    ∙ ap (λ o. option_or o (byte_among (flat_map (run_in globals b k) rest) a)) (one_found globals b k a r front e)
    ∙ option_or_assoc (byte_in (record { at = base_in b k; bytes = front }) a) (byte_among (run_in globals b k r) a) (byte_among (flat_map (run_in globals b k) rest) a)
    ∙ ap (λ o. option_or (byte_in (record { at = base_in b k; bytes = front }) a) o) (sym (byte_among-append (run_in globals b k r) (flat_map (run_in globals b k) rest) a))

one_run : (globals : List Symbol) (b : Placement Module) (k a v : ℕ) (r : Located) → Has (run_in globals b k r) a v
    → (section_of r ≡ k) × (byte_in (run_of globals b r) a ≡ Some v) × (run_in globals b k r ≡ run_of globals b r ∷ [])
unfolding Has
one_run globals b k a v r h = by (section_of r == k) refl h
  where
    by : (t : Bool) → (section_of r == k) ≡ t → Has (if t then run_of globals b r ∷ [] else []) a v
        → (section_of r ≡ k) × (byte_in (run_of globals b r) a ≡ Some v) × (run_in globals b k r ≡ run_of globals b r ∷ [])
    by true t (inl h) = (eqb-true (section_of r) k t, h, cond-true (section_of r == k) _ _ t)
    by true t (inr h) = absurd h
    by false t h = absurd h

-- a statement's bytes stand in its section: behind those of the statements before it there
has_section : (globals : List Symbol) (b : Placement Module) (k a v : ℕ) (c : Counters) (xs : List Statement) (front : List ℕ) → c.lengths k ≡ length front
    → Has (flat_map (run_in globals b k) (located c xs)) a v
    → byte_in (record { at = base_in b k; bytes = front ++ flat_map (filled_in globals b k) (located c xs) }) a ≡ Some v
unfolding located Has
has_section globals b k a v c [] front e h = absurd h
has_section globals b k a v c (x ∷ xs) front e h =
    let r : Located = record { before = c; statement = x } in
    let w = filled_in globals b k r in
    let rest = located (after c x.body) xs in
    elim (has_either (run_in globals b k r) (flat_map (run_in globals b k) rest) a v h) [
      | inl l ↦
          let here = one_run globals b k a v r l in
          let low = from_below (run_of globals b r) a v here.1 in
          let at : base_in b (section_of r) + offset_of r ≡ base_in b k + length front =
          ap (λ n. base_in b n + c.lengths n) here.0 ∙ ap (λ n. base_in b k + n) e in
          section_found globals b k a c (x ∷ xs) front e
          ∙ ap (λ o. option_or o (byte_among (run_in globals b k r ++ flat_map (run_in globals b k) rest) a)) (byte_in_above (record { at = base_in b k; bytes = front }) a (omega arith))
          ∙ byte_among-append (run_in globals b k r) (flat_map (run_in globals b k) rest) a
          ∙ ap (λ ps. option_or (byte_among ps a) (byte_among (flat_map (run_in globals b k) rest) a)) here.2
          ∙ ap (λ o. option_or (option_or o None) (byte_among (flat_map (run_in globals b k) rest) a)) here.1
      | inr l ↦
          ap (λ y. let p : Placed = record { at = base_in b k; bytes = y } in byte_in p a) (sym (append_assoc front w (flat_map (filled_in globals b k) rest)))
          ∙ has_section globals b k a v (after c x.body) xs (front ++ w) (longer globals b k r front e) l
    ]

-- a module: its sections have what its statements give

run_in_all : (globals : List Symbol) (b : Placement Module) (k a v : ℕ) (rs : List Located) → Has (flat_map (run_in globals b k) rs) a v → Has (map (run_of globals b) rs) a v
unfolding Has
run_in_all globals b k a v [] h = h
run_in_all globals b k a v (r ∷ rs) h = elim (has_either (run_in globals b k r) (flat_map (run_in globals b k) rs) a v h) [
  | inl l ↦ inl (one_run globals b k a v r l).1
  | inr l ↦ inr (run_in_all globals b k a v rs l)
]

count_after : (c : Counters) (line : ℕ) (b : Body) → (after c b).count ≡ c.count + length (opened_by line b)
count_after c line (body.At x) = refl
count_after c line _ = sym (add-zero c.count)

counted : (c : Counters) (xs : List Statement) → c.count ≤ c.count + length (flat_map opens (located c xs))
counted c xs = omega arith

-- a statement stands in one of the sections
run_section : (globals : List Symbol) (b : Placement Module) (n a v : ℕ) (c : Counters) (xs : List Statement) → Stands c
    → c.count + length (flat_map opens (located c xs)) ≡ n → Has (map (run_of globals b) (located c xs)) a v
    → (k : ℕ) × (k < n) × Has (flat_map (run_in globals b k) (located c xs)) a v
unfolding located Has
run_section globals b n a v c [] s e h = absurd h
run_section globals b n a v c (x ∷ xs) s e h =
    let r : Located = record { before = c; statement = x } in
    let rest = located (after c x.body) xs in
    let t = entered_stands c x.body s in
    let m = count_after c x.line x.body in
    let len = length-append (opens r) (flat_map opens rest) in
    elim h [
      | inl l ↦ (
        section_of r,
        omega (arith, t.here, m, len),
        has_left (run_in globals b (section_of r) r) (flat_map (run_in globals b (section_of r)) rest) a v
            (subst (λ ps. Has ps a v) (sym (cond-true (section_of r == section_of r) (run_of globals b r ∷ []) [] (eq-eqb (section_of r) (section_of r) refl))) (inl l)),
      )
      | inr l ↦
          let more = run_section globals b n a v (after c x.body) xs (after_stands c x.body s) (omega (arith, m, len)) l in
          (more.0, more.1, has_right (run_in globals b more.0 r) (flat_map (run_in globals b more.0) rest) a v more.2)
    ]

abbrev section_at : List Symbol → Placement Module → ℕ → Placed
section_at globals b k = record { at = base_in b k; bytes = filled_section globals b k }

nothing_before : (at a : ℕ) → byte_in (record { at = at; bytes = [] }) a ≡ None
nothing_before at a = elim (leb_tells at a) [
  | inl l ↦ byte_in_above (record { at = at; bytes = [] }) a (omega (arith, l.1))
  | inr l ↦ byte_in_below (record { at = at; bytes = [] }) a l.1
]

section_runs : (globals : List Symbol) (b : Placement Module) (k a v : ℕ) → byte_in (section_at globals b k) a ≡ Some v → Has (map (run_of globals b) (lines_in b.part)) a v
section_runs globals b k a v h =
    let f = section_found globals b k a at_begin b.part.statements [] refl in
    run_in_all globals b k a v (lines_in b.part) (found_has _ a v
    (sym (ap (λ o. option_or o (byte_among (flat_map (run_in globals b k) (lines_in b.part)) a)) (nothing_before (base_in b k) a)) ∙ sym f ∙ h))

-- sections by their heads
abbrev AtBases : Placement Module → ℕ → List Head → Type 0
AtBases b n hs = (j : ℕ) → j < length hs → base_in b (n + j) ≡ option_map_or (λ (h : Head). base_at b h.place) (slice_get hs j) 0

next_bases : (b : Placement Module) (n : ℕ) (h : Head) (hs : List Head) → AtBases b n (h ∷ hs) → AtBases b (n + 1) hs
next_bases b n h hs e = λ j l. ap (base_in b) (omega arith) ∙ e (suc j) (omega arith)

first_base : (b : Placement Module) (n : ℕ) (h : Head) (hs : List Head) → AtBases b n (h ∷ hs) → base_in b n ≡ base_at b h.place
first_base b n h hs e = ap (base_in b) (sym (add-zero n)) ∙ e 0 (omega arith)

spots_sections : (globals : List Symbol) (b : Placement Module) (n a v : ℕ) (hs : List Head) → AtBases b n hs
    → Has (map (spot_under globals b) (enumerate_from n hs)) a v → Has (map (run_of globals b) (lines_in b.part)) a v
unfolding Has
spots_sections globals b n a v [] e h = absurd h
spots_sections globals b n a v (x ∷ hs) e (inl h) =
    section_runs globals b n a v
    (ap (λ at. let p : Placed = record { at = at; bytes = filled_section globals b n } in byte_in p a) (first_base b n x hs e) ∙ h)
spots_sections globals b n a v (x ∷ hs) e (inr h) = spots_sections globals b (n + 1) a v hs (next_bases b n x hs e) h

sections_spots : (globals : List Symbol) (b : Placement Module) (n k a v : ℕ) (hs : List Head) → AtBases b n hs → k < length hs
    → byte_in (section_at globals b (n + k)) a ≡ Some v → Has (map (spot_under globals b) (enumerate_from n hs)) a v
unfolding Has
sections_spots globals b n k a v [] e l h = absurd (omega arith)
sections_spots globals b n zero a v (x ∷ hs) e l h =
    inl (ap (λ at. let p : Placed = record { at = at; bytes = filled_section globals b n } in byte_in p a) (sym (first_base b n x hs e))
    ∙ ap (λ m. byte_in (section_at globals b m) a) (sym (add-zero n)) ∙ h)
sections_spots globals b n (suc k) a v (x ∷ hs) e l h =
    inr (sections_spots globals b (n + 1) k a v hs (next_bases b n x hs e) (omega arith) (ap (λ m. byte_in (section_at globals b m) a) (omega arith) ∙ h))

all_bases : (b : Placement Module) → AtBases b 0 (heads_in b.part)
all_bases b j l = ap (base_in b) (zero-add j)

spots_runs : (globals : List Symbol) (b : Placement Module) (a v : ℕ) → Has (spots_in globals b) a v → Has (runs_in globals b) a v
spots_runs globals b a v h = spots_sections globals b 0 a v (heads_in b.part) (all_bases b) h

runs_spots : (globals : List Symbol) (b : Placement Module) (a v : ℕ) → Has (runs_in globals b) a v → Has (spots_in globals b) a v
runs_spots globals b a v h =
    let k = run_section globals b (length (heads_in b.part)) a v at_begin b.part.statements (record { both = omega arith; here = omega arith }) (omega arith) h in
    sections_spots globals b 0 k.0 a v (heads_in b.part) (all_bases b) k.1
    (ap (λ m. byte_in (section_at globals b m) a) (zero-add k.0) ∙ has_section globals b k.0 a v at_begin b.part.statements [] refl k.2)

-- all modules
all_to : (f g : Placement Module → List Placed) (a v : ℕ) (bs : List (Placement Module)) → ((b : Placement Module) → Has (f b) a v → Has (g b) a v) → Has (flat_map f bs) a v → Has (flat_map g bs) a v
all_to f g a v [] e h = h
all_to f g a v (b ∷ bs) e h = elim (has_either (f b) (flat_map f bs) a v h) [
  | inl l ↦ has_left (g b) (flat_map g bs) a v (e b l)
  | inr l ↦ has_right (g b) (flat_map g bs) a v (all_to f g a v bs e l)
]

-- spots and their extents
Paired : List Placed → List Extent → Type 0
Paired [] [] = Unit {0}
Paired (p ∷ ps) (e ∷ es) = (p.at ≡ e.at) × (length p.bytes ≡ e.len) × Paired ps es
Paired _ _ = ⊥

paired-append : (ps qs : List Placed) (es fs : List Extent) → Paired ps es → Paired qs fs → Paired (ps ++ qs) (es ++ fs)
unfolding Paired
paired-append [] qs [] fs p q = q
paired-append (x ∷ ps) qs (e ∷ es) fs p q = (p.0, p.1, paired-append ps qs es fs p.2 q)
paired-append [] qs (e ∷ es) fs p q = absurd p
paired-append (x ∷ ps) qs [] fs p q = absurd p

filled_length : (globals : List Symbol) (b : Placement Module) (k : ℕ) → length (filled_section globals b k) ≡ section_length k b.part
filled_length globals b k =
    length-flat_map (filled_in globals b k) (lines_in b.part)
    ∙ ap (λ f. sum_by f (lines_in b.part)) (fun_ext (λ r. one r))
  where
    through : {A B : Type 0} (f : A → B) (t : Bool) (x y : A) → f (if t then x else y) ≡ (if t then f x else f y)
    through f true x y = refl
    through f false x y = refl

    one : (r : Located) → length (filled_in globals b k r) ≡ length_in k r
    one r = through length (section_of r == k) (bytes_of globals b r) []
        ∙ ap (λ n. if section_of r == k then n else 0) (length-filled_bytes (value_in_module globals b) (address_in b r) (place_of r) r.statement.body)

paired_sections : (globals : List Symbol) (b : Placement Module) (n : ℕ) (hs : List Head)
    → Paired (map (spot_under globals b) (enumerate_from n hs)) (map (extent_under b) (enumerate_from n hs))
unfolding Paired
paired_sections globals b n [] = tt
paired_sections globals b n (h ∷ hs) = (refl, filled_length globals b n, paired_sections globals b (n + 1) hs)

all_paired : (globals : List Symbol) (bs : List (Placement Module)) → Paired (flat_map (spots_in globals) bs) (flat_map extents_in bs)
unfolding Paired
all_paired globals [] = tt
all_paired globals (b ∷ bs) =
    paired-append (spots_in globals b) (flat_map (spots_in globals) bs) (extents_in b) (flat_map extents_in bs)
    (paired_sections globals b 0 (heads_in b.part)) (all_paired globals bs)

one_hit : (a v : ℕ) (p : Placed) (e : Extent) → p.at ≡ e.at → length p.bytes ≡ e.len → byte_in p a ≡ Some v → ◌≡◌ {A = ℕ} (cond (covers a e) 1 0) 1
one_hit a v p e at len h =
    let low = from_below p a v h in
    let high = within p a v h in
    grind (arith, nat_tests)

-- a byte of one of the spots is hit
hit : (a v : ℕ) (ps : List Placed) (es : List Extent) → Paired ps es → Has ps a v → 1 ≤ hits es a
unfolding Paired Has
hit a v [] [] p h = absurd h
hit a v (x ∷ ps) (e ∷ es) p (inl h) = omega (arith, sum_by-cons (λ y. cond (covers a y) 1 0) e es, one_hit a v x e p.0 p.1 h)
hit a v (x ∷ ps) (e ∷ es) p (inr h) = omega (arith, sum_by-cons (λ y. cond (covers a y) 1 0) e es, hit a v ps es p.2 h)
hit a v [] (e ∷ es) p h = absurd p
hit a v (x ∷ ps) [] p h = absurd p

-- where no address is hit twice, the byte of any of the spots is what is found
only_found : (a v : ℕ) (ps : List Placed) (es : List Extent) → Paired ps es → hits es a < 2 → Has ps a v → byte_among ps a ≡ Some v
unfolding Paired Has
only_found a v [] [] p d h = absurd h
only_found a v (x ∷ ps) (e ∷ es) p d (inl h) = ap (λ o. option_or o (byte_among ps a)) h
only_found a v (x ∷ ps) (e ∷ es) p d (inr h) =
    let rest = only_found a v ps es p.2 (omega (arith, sum_by-cons (λ y. cond (covers a y) 1 0) e es)) h in
    ap (λ o. option_or o (byte_among ps a)) (no_other (byte_in x a) refl) ∙ rest
  where
    no_other : (o : Option ℕ) → byte_in x a ≡ o → byte_in x a ≡ None
    no_other None n = n
    no_other (Some w) n = absurd (omega (arith, sum_by-cons (λ y. cond (covers a y) 1 0) e es, one_hit a w x e p.0 p.1 n, hit a v ps es p.2 h))
only_found a v [] (e ∷ es) p d h = absurd p
only_found a v (x ∷ ps) [] p d h = absurd p

-- the sections of the modules have at each address what their statements give
pub runs_law : (globals : List Symbol) (bs : List (Placement Module)) (a : ℕ) → AreDisjoint (flat_map extents_in bs)
    → byte_among (flat_map (spots_in globals) bs) a ≡ byte_among (flat_map (runs_in globals) bs) a
runs_law globals bs a d = by (byte_among (flat_map (runs_in globals) bs) a) refl (byte_among (flat_map (spots_in globals) bs) a) refl
  where
    spots : List Placed
    spots = flat_map (spots_in globals) bs

    by : (o : Option ℕ) → byte_among (flat_map (runs_in globals) bs) a ≡ o → (q : Option ℕ) → byte_among (flat_map (spots_in globals) bs) a ≡ q
        → byte_among (flat_map (spots_in globals) bs) a ≡ byte_among (flat_map (runs_in globals) bs) a
    by (Some v) e q f =
        only_found a v (flat_map (spots_in globals) bs) (flat_map extents_in bs) (all_paired globals bs) (d a)
        (all_to (runs_in globals) (spots_in globals) a v bs (λ b. runs_spots globals b a v) (found_has (flat_map (runs_in globals) bs) a v e)) ∙ sym e
    by None e None f = f ∙ sym e
    by None e (Some v) f =
        absurd (none_has (flat_map (runs_in globals) bs) a v e
        (all_to (spots_in globals) (runs_in globals) a v bs (λ b. spots_runs globals b a v) (found_has (flat_map (spots_in globals) bs) a v f)))

-- a byte that a statement gives is found
pub run_found : (globals : List Symbol) (bs : List (Placement Module)) (a v : ℕ) → AreDisjoint (flat_map extents_in bs)
    → Has (flat_map (runs_in globals) bs) a v → byte_among (flat_map (spots_in globals) bs) a ≡ Some v
run_found globals bs a v d h =
    only_found a v (flat_map (spots_in globals) bs) (flat_map extents_in bs) (all_paired globals bs) (d a)
    (all_to (runs_in globals) (spots_in globals) a v bs (λ b. runs_spots globals b a v) h)
