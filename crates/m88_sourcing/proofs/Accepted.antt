-- What it says of statements that they are accepted: their sections fit and share no byte, and each use is in reach.
use Rattle.std.proofs.Common.{◌≡◌, ℕ, ◌+◌, ◌%◌, ◌<◌, ◌≤◌, ◌^◌, Bool, true, false, ◌||◌, cond, nat_lt, inl, inr, List, [], ◌∷◌, ◌++◌, length, refl, sym, ap, subst, ◌∙◌, arith, ltb-false}
use Rattle.std.specs.Prelude.{None, Option, Some, if◌then◌else◌, map, sum_by}
use Rattle.std.specs.List.{AllByRecursion, enumerate_from, list_any}
use Rattle.std.specs.Int.{cast_signed, w32}
use Rattle.std.specs.Option.{option_map, option_or}
use Rattle.std.proofs.lemmas.Bool.{cases_lt}
use Rattle.std.proofs.lemmas.Bool.Decides.{nat_tests}
use Rattle.std.proofs.lemmas.List.Sums.{sum_by-cons}
use Rattle.m88_base.specs.Image.{most_bytes}
use Rattle.m88_base.specs.Placed.{Placed, count_among}
use Rattle.m88_parse.specs.declared.unit.Statement.{Statement}
use Rattle.m88_link.specs.Field.{distance, is_in_reach}
use Rattle.m88_link.specs.Layout.{Extent, Layout, Reference, reference}
use Rattle.m88_link.specs.Refusal.{AreDisjoint, covers, duplicate, hits, is_too_large, symbol_fault, too_far, too_far_in, undefined}
use Rattle.m88_link.specs.Symbols.{symbol_meaning}
use Rattle.m88_link.specs.declared.fault.LinkFault.{LinkFault}
use Rattle.m88_link.specs.declared.fault.LinkKind.TheVariants as kind
use Rattle.m88_link.specs.declared.object.Reloc.{Reloc}
use Rattle.m88_link.specs.declared.object.Symbol.{Symbol}
use Rattle.m88_asm.specs.Counters.{at_begin}
use Rattle.m88_asm.specs.Objects.{Head}
use Rattle.m88_asm.specs.Units.{extent_under, extents_in, section_length}
use Rattle.m88_disasm.proofs.Laws.{Names, PartsData, RoomsAre, Sets, empty_first, heads_are, hits_cons, lengths_behind, main, opened_in, parts_heads, parts_lengths, room, rooms_are, rooms_count, stood}

-- rooms: two without a part, and those of the parts
pub record AreRoomed (runs : List Placed) (es : List Extent) : Type 0 where
  pub first : Extent
  pub second : Extent
  pub others : List Extent
  pub extents : es ≡ first ∷ second ∷ others
  pub are : RoomsAre others runs

pub are_roomed : (Named : Names) (runs : List Placed) (sets xs : List Statement) → Sets Named sets
    → PartsData Named runs xs → AreRoomed runs (extents_in (stood (sets ++ xs)))
are_roomed Named runs sets xs are datas = record {
  first = record { at = (stood (sets ++ xs)).text_at; len = section_length 0 (main (sets ++ xs)); line = 1 };
  second = record { at = (stood (sets ++ xs)).data_at; len = section_length 1 (main (sets ++ xs)); line = 1 };
  others = map (extent_under (stood (sets ++ xs))) (enumerate_from 2 (opened_in xs));
  extents =
      ap (λ (hs : List Head). map (extent_under (stood (sets ++ xs))) (enumerate_from 0 hs))
      (heads_are Named sets xs are);
  are =
      rooms_are (stood (sets ++ xs)) 2 (opened_in xs) runs (parts_heads Named runs xs datas)
      (λ j h. lengths_behind Named j at_begin sets xs (room 2 runs j) are empty_first
      (λ e k. parts_lengths Named j e 2 runs xs k.fresh datas));
}

-- what holds of joined lists holds of each
pub all_in_front : {A : Type 0} (P : A → Type 0) (xs ys : List A) → AllByRecursion P (xs ++ ys)
    → AllByRecursion P xs × AllByRecursion P ys
all_in_front P [] ys h = (tt, h)
all_in_front P (x ∷ xs) ys h = let k = all_in_front P xs ys h.1 in ((h.0, k.0), k.1)

-- they are not too large
both_false : (a b : Bool) → (a || b) ≡ false → (a ≡ false) × (b ≡ false)
both_false true b e = absurd cc
both_false false b e = (refl, e)

abbrev pub EndLow : List Placed → Type 0
EndLow runs = AllByRecursion (λ (r : Placed). r.at + length r.bytes ≤ 2 ^ 32) runs

ends_low : (es : List Extent) (runs : List Placed) → RoomsAre es runs
    → list_any (λ (e : Extent). nat_lt (2 ^ 32) (e.at + e.len)) es ≡ false → EndLow runs
ends_low [] [] are none = tt
ends_low (e ∷ es) (run ∷ runs) are none =
    let k = both_false (nat_lt (2 ^ 32) (e.at + e.len)) (list_any (λ (x : Extent). nat_lt (2 ^ 32) (x.at + x.len)) es)
    none in
    let low = ltb-false (2 ^ 32) (e.at + e.len) k.0 in
    let at = are.0 in
    let len = are.1 in
    (omega (arith, low, at, len), ends_low es runs are.2 k.1)
ends_low [] (run ∷ runs) are none = absurd are
ends_low (e ∷ es) [] are none = absurd are

pub small_enough : (runs : List Placed) (es : List Extent) → AreRoomed runs es → is_too_large es ≡ false
    → (count_among runs ≤ most_bytes) × EndLow runs
small_enough runs es r fits =
    let all : is_too_large (r.first ∷ r.second ∷ r.others) ≡ false = ap is_too_large (sym r.extents) ∙ fits in
    let k = both_false (nat_lt most_bytes (sum_by (λ (e : Extent). e.len) (r.first ∷ r.second ∷ r.others)))
    (list_any (λ (e : Extent). nat_lt (2 ^ 32) (e.at + e.len)) (r.first ∷ r.second ∷ r.others)) all in
    let few = ltb-false most_bytes (sum_by (λ (e : Extent). e.len) (r.first ∷ r.second ∷ r.others)) k.0 in
    let one = sum_by-cons (λ (e : Extent). e.len) r.first (r.second ∷ r.others) in
    let two = sum_by-cons (λ (e : Extent). e.len) r.second r.others in
    let count = rooms_count r.others runs r.are in
    let l = both_false (nat_lt (2 ^ 32) (r.first.at + r.first.len))
    (list_any (λ (e : Extent). nat_lt (2 ^ 32) (e.at + e.len)) (r.second ∷ r.others)) k.1 in
    let m = both_false (nat_lt (2 ^ 32) (r.second.at + r.second.len))
    (list_any (λ (e : Extent). nat_lt (2 ^ 32) (e.at + e.len)) r.others) l.1 in
    (omega (arith, few, one, two, count), ends_low r.others runs r.are m.1)

-- they share no byte: a part ends before the next begins
disjoint_behind : (e : Extent) (es : List Extent) → AreDisjoint (e ∷ es) → AreDisjoint es
disjoint_behind e es apart a =
    let sum = hits_cons e es a in
    let few = apart a in
    omega (arith, sum, few)

covered : (a : ℕ) (e : Extent) → e.at ≤ a → a < e.at + e.len → covers a e ≡ true
covered a e h k = grind (arith, nat_tests)

next_behind : (es : List Extent) (before : List Placed) (one next : Placed) (others : List Placed)
    → RoomsAre es (before ++ one ∷ next ∷ others) → AreDisjoint es → one.at ≤ next.at → 0 < length next.bytes
    → one.at + length one.bytes ≤ next.at
next_behind [] [] one next others are apart order some = absurd are
next_behind (e ∷ []) [] one next others are apart order some = absurd are.2
next_behind (e ∷ f ∷ es) [] one next others are apart order some =
    elim (cases_lt next.at (one.at + length one.bytes)) [
      | inr high ↦ high
      | inl low ↦
          let at = are.0 in
          let len = are.1 in
          let next_at = are.2.0 in
          let next_len = are.2.1 in
          let sum1 : hits (e ∷ f ∷ es) next.at ≡ 1 + hits (f ∷ es) next.at =
          hits_cons e (f ∷ es) next.at
          ∙ ap (λ (t : Bool). cond t 1 0 + hits (f ∷ es) next.at)
          (covered next.at e (omega (arith, at, order)) (omega (arith, at, len, low))) in
          let sum2 : hits (f ∷ es) next.at ≡ 1 + hits es next.at =
          hits_cons f es next.at
          ∙ ap (λ (t : Bool). cond t 1 0 + hits es next.at)
          (covered next.at f (omega (arith, next_at)) (omega (arith, next_at, next_len, some))) in
          let few = apart next.at in
          absurd (omega (arith, sum1, sum2, few))
    ]
next_behind [] (run ∷ before) one next others are apart order some = absurd are
next_behind (e ∷ es) (run ∷ before) one next others are apart order some =
    next_behind es before one next others are.2 (disjoint_behind e es apart) order some

pub next_begins : (before : List Placed) (one next : Placed) (others : List Placed) (es : List Extent)
    → AreRoomed (before ++ one ∷ next ∷ others) es → AreDisjoint es → one.at ≤ next.at → 0 < length next.bytes
    → one.at + length one.bytes ≤ next.at
next_begins before one next others es r apart order some =
    let all : AreDisjoint (r.first ∷ r.second ∷ r.others) = subst AreDisjoint r.extents apart in
    next_behind r.others before one next others r.are
    (disjoint_behind r.second r.others (disjoint_behind r.first (r.second ∷ r.others) all)) order some

-- each use is in reach
either_none : {A : Type 0} (a b : Option A) → option_or a b ≡ None → (a ≡ None) × (b ≡ None)
either_none None b e = (refl, e)
either_none (Some x) b e = absurd cc

pub not_too_far : (l : Layout) → symbol_fault l ≡ None → too_far l.references ≡ None
not_too_far l e =
    (either_none (undefined l.references) (too_far l.references)
    (either_none (duplicate l.globals) (option_or (undefined l.references) (too_far l.references)) e).1).1

-- the use of a name in a module of these symbols is not too far
abbrev pub IsNear : List Symbol → (ℕ → ℕ) → List Symbol → Reloc → Type 0
IsNear g base ss u = too_far_in (reference g base ss u) ≡ None

pub uses_near : (g : List Symbol) (base : ℕ → ℕ) (ss : List Symbol) (us : List Reloc)
    → too_far (map (reference g base ss) us ++ []) ≡ None → AllByRecursion (IsNear g base ss) us
uses_near g base ss [] e = tt
uses_near g base ss (u ∷ us) e =
    let k = either_none (too_far_in (reference g base ss u)) (too_far (map (reference g base ss) us ++ [])) e in
    (k.0, uses_near g base ss us k.1)

reach_of : (t : Bool) (fault : LinkFault) → (if t then None else Some fault) ≡ None → t ≡ true
reach_of true fault e = refl
reach_of false fault e = absurd cc

pub in_reach : (g : List Symbol) (base : ℕ → ℕ) (ss : List Symbol) (u : Reloc) (v : ℕ)
    → symbol_meaning g base ss u.symbol ≡ Some v → IsNear g base ss u
    → is_in_reach u.kind ((v + u.addend) % 2 ^ 32) (base u.section + u.offset) ≡ true
in_reach g base ss u v means near =
    let at : ℕ = base u.section + u.offset in
    let told : Option ℕ → Reference = λ o. record {
      kind = u.kind;
      at = at;
      name = u.symbol;
      target = option_map (λ w. (w + u.addend) % 2 ^ 32) o;
      line = u.line;
      col = u.col;
    } in
    let to : ℕ = (v + u.addend) % 2 ^ 32 in
    reach_of (is_in_reach u.kind to at)
    (record { line = u.line; col = u.col; kind = kind.TooFar (cast_signed w32 (distance to at)) })
    (sym (ap (λ (o : Option ℕ). too_far_in (told o)) means) ∙ near)
