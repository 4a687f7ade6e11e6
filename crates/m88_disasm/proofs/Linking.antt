-- The rooms of statements that give the bytes of parts are those of the parts, and no two of them share a byte.
use Rattle.std.proofs.Common.{◌≡◌, ◌≢◌, ℕ, ◌+◌, ◌<◌, ◌≤◌, ◌^◌, Bool, true, false, ◌==◌, ◌||◌, nat_lt, cond, inl, inr, List, [], ◌∷◌, ◌++◌, length, refl, sym, ap, subst, ◌∙◌, arith, eq-eqb, ne_eqb, le-ltb, length-append}
use Rattle.std.specs.Prelude.{if◌then◌else◌, map, sum_by}
use Rattle.std.specs.List.{enumerate_from, list_any}
use Rattle.std.proofs.lemmas.Bool.{cases_lt}
use Rattle.std.proofs.lemmas.Bool.Decides.{nat_tests}
use Rattle.std.proofs.lemmas.List.Sums.{sum_by-cons}
use Rattle.m88_base.specs.Placed.{AreApart, Placed, count_among}
use Rattle.m88_parse.specs.declared.unit.Body.TheVariants as body
use Rattle.m88_parse.specs.declared.unit.Statement.{Statement}
use Rattle.m88_link.specs.Layout.{Extent}
use Rattle.m88_link.specs.Refusal.{AreDisjoint, covers, hits}
use Rattle.m88_asm.specs.Counters.{Counters, after, length_at, located, place_here}
use Rattle.m88_asm.specs.Objects.{Head}
use Rattle.m88_link.specs.Bases.{Placement, base_at}
use Rattle.m88_parse.specs.declared.unit.Module.{Module}
use Rattle.m88_asm.specs.Units.{extent_under, length_in, section_length}
use Rattle.m88_disasm.specs.Read.{unlabelled}
use Rattle.m88_disasm.proofs.Accepting.{HeadsAre}
use Rattle.m88_disasm.proofs.Bodies.{ArePieces}
use Rattle.m88_disasm.proofs.Given.{Data, Gives, Names, PartsData, Sets, a_set, more_data, more_parts, no_data, no_parts, no_set}
use Rattle.m88_disasm.proofs.Standing.{Empty, Fresh, Stands, empty_behind, fresh_behind, located_cons, located_none, opens_part, stands_behind}

-- the bytes that a statement gives count for its section
data_length : (Named : Names) (j : ℕ) (c : Counters) (at : ℕ) (x : Statement) (given : List ℕ) → Gives Named at x given
    → length_in j (record { before = c; statement = x }) ≡ (if c.here == j then length given else 0)
data_length Named j c at x given g =
    ap (λ (d : Counters). if d.here == j then length_at (place_here d) x.body else 0) (g.stays c)
    ∙ ap (λ (n : ℕ). if c.here == j then n else 0) (g.length_is (place_here c))

-- the bytes of a section among statements
abbrev pub lengths_of : ℕ → Counters → List Statement → ℕ
lengths_of j c xs = sum_by (length_in j) (located c xs)

pub lengths_cons : (j : ℕ) (c : Counters) (x : Statement) (xs : List Statement)
    → lengths_of j c (x ∷ xs) ≡ length_in j (record { before = c; statement = x }) + lengths_of j (after c x.body) xs
lengths_cons j c x xs =
    ap (sum_by (length_in j)) (located_cons c x xs)
    ∙ sum_by-cons (length_in j) (record { before = c; statement = x }) (located (after c x.body) xs)

lengths_none : (j : ℕ) (c : Counters) → lengths_of j c [] ≡ 0
lengths_none j c = ap (sum_by (length_in j)) (located_none c)

-- a number where a test holds, else 0
abbrev pub where_same : Bool → ℕ → ℕ
where_same t n = if t then n else 0

where_sum : (t : Bool) (m n s : ℕ) → where_same t m + (where_same t n + s) ≡ where_same t (m + n) + s
where_sum true m n s = omega arith
where_sum false m n s = omega arith

where_none : (t : Bool) (s : ℕ) → s ≡ where_same t 0 + s
where_none true s = omega arith
where_none false s = omega arith

data_lengths : (Named : Names) (j k at done : ℕ) (c : Counters) (from : ℕ) (bytes : List ℕ) (own more : List Statement)
    (total : ℕ)
    → Stands c k at done → Data Named from bytes own
    → ((e : Counters) → Stands e k at (done + length bytes) → lengths_of j e more ≡ total)
    → lengths_of j c (own ++ more) ≡ where_same (k == j) (length bytes) + total
data_lengths Named j k at done c from _ _ more total s no_data rest =
    let none : done ≡ done + 0 = omega arith in
    rest c (subst (λ (m : ℕ). Stands c k at m) none s) ∙ where_none (k == j) total
data_lengths Named j k at done c from bytes _ more total s
    (more_data {x = x} {xs = xs} given left bytes_are gives tail) rest =
    let size : length bytes ≡ length given + length left = ap length bytes_are ∙ length-append given left in
    let later : (e : Counters) → Stands e k at (done + length given + length left) → lengths_of j e more ≡ total =
    λ e h. rest e (let same : done + length given + length left ≡ done + length bytes = omega (arith, size) in
    subst (λ (i : ℕ). Stands e k at i) same h) in
    let ih = data_lengths Named j k at (done + length given) (after c x.body) (from + length given) left xs more total
    (stands_behind Named c k at done from x given gives s) tail later in
    lengths_cons j c x (xs ++ more)
    ∙ ap (λ (m : ℕ). m + lengths_of j (after c x.body) (xs ++ more))
    (data_length Named j c from x given gives ∙ ap (λ (i : ℕ). where_same (i == j) (length given)) s.here)
    ∙ ap (λ (m : ℕ). where_same (k == j) (length given) + m) ih
    ∙ where_sum (k == j) (length given) (length left) total
    ∙ ap (λ (m : ℕ). where_same (k == j) m + total) (sym size)

-- the bytes of section j where parts stand from section n on
abbrev pub room : ℕ → List Placed → ℕ → ℕ
room n [] j = 0
room n (run ∷ runs) j = where_same (n == j) (length run.bytes) + room (n + 1) runs j

place_length : (j : ℕ) (c : Counters) (n at : ℕ)
    → length_in j (record { before = c; statement = unlabelled n (body.At at) }) ≡ 0
place_length j c n at = by_test (c.count == j)
  where
    by_test : (t : Bool) → where_same t 0 ≡ 0
    by_test true = refl
    by_test false = refl

pub parts_lengths : (Named : Names) (j : ℕ) (c : Counters) (n : ℕ) (runs : List Placed) (xs : List Statement) → Fresh c n
    → PartsData Named runs xs → lengths_of j c xs ≡ room n runs j
parts_lengths Named j c n _ _ f no_parts = lengths_none j c
parts_lengths Named j c n _ xs f (more_parts {run = run} {runs = runs} i own more statements_are datas others) =
    let opened : Counters = after c (body.At run.at) in
    let own_lengths = data_lengths Named j n run.at 0 opened run.at run.bytes own more (room (n + 1) runs j)
    (opens_part c n run.at f)
    datas (λ e h. parts_lengths Named j e (n + 1) runs more (fresh_behind e n run.at (0 + length run.bytes) h) others) in
    ap (lengths_of j c) statements_are
    ∙ lengths_cons j c (unlabelled i (body.At run.at)) (own ++ more)
    ∙ ap (λ (m : ℕ). m + lengths_of j opened (own ++ more)) (place_length j c i run.at)
    ∙ (let e = own_lengths in omega (arith, e))

-- statements that give names values have no bytes
set_length : (j : ℕ) (c : Counters) (n : ℕ) (name : List ℕ) (col value : ℕ)
    → length_in j (record { before = c; statement = unlabelled n (body.Set name col value) }) ≡ 0
set_length j c n name col value = by_test (c.here == j)
  where
    by_test : (t : Bool) → where_same t 0 ≡ 0
    by_test true = refl
    by_test false = refl

pub lengths_behind : (Named : Names) (j : ℕ) (c : Counters) (sets xs : List Statement) (total : ℕ) → Sets Named sets
    → Empty c → ((e : Counters) → Empty e → lengths_of j e xs ≡ total) → lengths_of j c (sets ++ xs) ≡ total
lengths_behind Named j c _ xs total no_set empty rest = rest c empty
lengths_behind Named j c _ xs total (a_set {xs = sets} n name col value named others) empty rest =
    let x : Statement = unlabelled n (body.Set name col value) in
    let ih = lengths_behind Named j (after c x.body) sets xs total others (empty_behind c name col value empty) rest in
    lengths_cons j c x (sets ++ xs)
    ∙ ap (λ (m : ℕ). m + lengths_of j (after c x.body) (sets ++ xs)) (set_length j c n name col value)
    ∙ omega (arith, ih)

-- sections before the parts have no bytes
pub no_room : (n j : ℕ) (runs : List Placed) → j < n → room n runs j ≡ 0
no_room n j [] h = refl
no_room n j (run ∷ runs) h =
    let other : n ≢ j = omega arith in
    ap (λ (t : Bool). where_same t (length run.bytes) + room (n + 1) runs j) (ne_eqb n j other)
    ∙ (let e = no_room (n + 1) j runs (omega arith) in omega (arith, e))

-- each part begins at the end of the one before it or behind that
abbrev pub AreInOrder : ℕ → List Placed → Type 0
AreInOrder from [] = Unit {0}
AreInOrder from (run ∷ runs) = (from ≤ run.at) × AreInOrder (run.at + length run.bytes) runs

in_order_from : (low high : ℕ) (runs : List Placed) → low ≤ high → AreInOrder high runs → AreInOrder low runs
in_order_from low high [] h are = tt
in_order_from low high (run ∷ runs) h are = (let k = are.0 in omega (arith, h, k), are.1)

-- so it is where a gap is between each two
pub in_order : (from : ℕ) (runs : List Placed) → AreApart from runs → AreInOrder from runs
in_order from [] apart = tt
in_order from (run ∷ runs) apart = (
  apart.0,
  in_order_from (run.at + length run.bytes) (run.at + length run.bytes + 1) runs (omega arith)
      (in_order (run.at + length run.bytes + 1) runs apart.2),
)

-- each extent is that of its part
abbrev pub RoomsAre : List Extent → List Placed → Type 0
RoomsAre [] [] = Unit {0}
RoomsAre (e ∷ es) (run ∷ runs) = (e.at ≡ run.at) × (e.len ≡ length run.bytes) × RoomsAre es runs
RoomsAre _ _ = ⊥

pub rooms_are : (d : Placement Module) (n : ℕ) (hs : List Head) (runs : List Placed) → HeadsAre hs runs
    → ((j : ℕ) → n ≤ j → section_length j d.part ≡ room n runs j)
    → RoomsAre (map (extent_under d) (enumerate_from n hs)) runs
rooms_are d n [] [] are lens = tt
rooms_are d n (h ∷ hs) (run ∷ runs) are lens = (
  ap (base_at d) are.0,
  lens n (omega arith)
      ∙ ap (λ (t : Bool). where_same t (length run.bytes) + room (n + 1) runs n) (eq-eqb n n refl)
      ∙ (let e = no_room (n + 1) n runs (omega arith) in omega (arith, e)),
  rooms_are d (n + 1) hs runs are.1 (λ j low.
      let other : n ≢ j = omega arith in
      lens j (omega arith)
      ∙ ap (λ (t : Bool). where_same t (length run.bytes) + room (n + 1) runs j) (ne_eqb n j other) ∙ omega arith),
)
rooms_are d n [] (run ∷ runs) are lens = absurd are
rooms_are d n (h ∷ hs) [] are lens = absurd are

-- they have the bytes of the parts together, below the last address, and no two of them share one
pub rooms_count : (es : List Extent) (runs : List Placed) → RoomsAre es runs
    → sum_by (λ (e : Extent). e.len) es ≡ count_among runs
rooms_count [] [] are = refl
rooms_count (e ∷ es) (run ∷ runs) are =
    sum_by-cons (λ (x : Extent). x.len) e es
    ∙ (let h = are.1 in let k = rooms_count es runs are.2 in omega (arith, h, k))
    ∙ sym (sum_by-cons (λ (r : Placed). length r.bytes) run runs)
rooms_count [] (run ∷ runs) are = absurd are
rooms_count (e ∷ es) [] are = absurd are

pub rooms_low : (es : List Extent) (runs : List Placed) → RoomsAre es runs → ArePieces runs
    → list_any (λ (e : Extent). nat_lt (2 ^ 32) (e.at + e.len)) es ≡ false
rooms_low [] [] are pieces = refl
rooms_low (e ∷ es) (run ∷ runs) are pieces =
    ap (λ (t : Bool). t || list_any (λ (x : Extent). nat_lt (2 ^ 32) (x.at + x.len)) es)
    (le-ltb (2 ^ 32) (e.at + e.len) (let h = are.0 in let k = are.1 in let l = pieces.2 in omega (arith, h, k, l)))
    ∙ rooms_low es runs are.2 pieces.3
rooms_low [] (run ∷ runs) are pieces = absurd are
rooms_low (e ∷ es) [] are pieces = absurd are

pub hits_cons : (e : Extent) (es : List Extent) (a : ℕ) → hits (e ∷ es) a ≡ cond (covers a e) 1 0 + hits es a
hits_cons e es a = sum_by-cons (λ (x : Extent). cond (covers a x) 1 0) e es

-- a room behind an address covers nothing below it
not_covered : (e : Extent) (a : ℕ) → a < e.at → covers a e ≡ false
not_covered e a h = grind (arith, nat_tests)

behind_room : (e : Extent) (a : ℕ) → e.at + e.len ≤ a → covers a e ≡ false
behind_room e a h = grind (arith, nat_tests)

none_hit : (es : List Extent) (runs : List Placed) (from a : ℕ) → RoomsAre es runs → AreInOrder from runs → a < from
    → hits es a ≡ 0
none_hit [] [] from a are apart h = refl
none_hit (e ∷ es) (run ∷ runs) from a are apart h =
    let low : from ≤ run.at = apart.0 in
    let at : e.at ≡ run.at = are.0 in
    hits_cons e es a
    ∙ ap (λ (t : Bool). cond t 1 0 + hits es a) (not_covered e a (omega arith))
    ∙ (let k = none_hit es runs (run.at + length run.bytes) a are.2 apart.1 (omega arith) in omega (arith, k))
none_hit [] (run ∷ runs) from a are apart h = absurd are
none_hit (e ∷ es) [] from a are apart h = absurd are

at_most_one : (t : Bool) (n : ℕ) → n ≡ 0 → cond t 1 0 + n < 2
at_most_one true n e = omega (arith, e)
at_most_one false n e = omega (arith, e)

pub rooms_apart : (es : List Extent) (runs : List Placed) (from : ℕ) → RoomsAre es runs → AreInOrder from runs
    → AreDisjoint es
rooms_apart [] [] from are apart a = omega arith
rooms_apart (e ∷ es) (run ∷ runs) from are apart a =
    elim (cases_lt a (e.at + e.len)) [
      | inl low ↦
          let at : e.at ≡ run.at = are.0 in
          let len : e.len ≡ length run.bytes = are.1 in
          let k : hits es a ≡ 0 = none_hit es runs (run.at + length run.bytes) a are.2 apart.1
          (omega (arith, low)) in
          subst (λ (n : ℕ). n < 2) (sym (hits_cons e es a)) (at_most_one (covers a e) (hits es a) k)
      | inr high ↦
          let k : hits es a < 2 = rooms_apart es runs (run.at + length run.bytes) are.2 apart.1 a in
          subst (λ (n : ℕ). n < 2)
          (sym (hits_cons e es a ∙ ap (λ (t : Bool). cond t 1 0 + hits es a) (behind_room e a high)))
          (omega (arith, k))
    ]
rooms_apart [] (run ∷ runs) from are apart a = absurd are
rooms_apart (e ∷ es) [] from are apart a = absurd are
