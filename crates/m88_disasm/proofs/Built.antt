-- A source that names values and then gives the bytes of parts is accepted, and is the image of these parts: the case of
-- a listing, and of any source that gives names to addresses besides.
use Rattle.std.proofs.Common.{◌≡◌, ℕ, ◌+◌, ◌≤◌, ◌^◌, Bool, true, false, ◌||◌, nat_lt, cond, List, [], ◌∷◌, ◌++◌, length, refl, sym, ap, subst, ◌∙◌, arith, le-ltb, append-nil, codes}
use Rattle.std.specs.Prelude.{Option, None, Some, flat_map, map, sum_by, unwrap_or}
use Rattle.std.specs.List.{AllByRecursion, enumerate_from, list_any}
use Rattle.std.specs.Option.{option_map, option_map_or, option_or}
use Rattle.std.proofs.lemmas.Bool.Decides.{nat_tests}
use Rattle.std.proofs.lemmas.List.Sums.{sum_by-cons}
use Rattle.std.proofs.lemmas.Slice.Eq.{bytes_eq-Decides}
use Rattle.m88_base.specs.Image.{most_bytes}
use Rattle.m88_base.specs.Placed.{Placed, byte_among, count_among}
use Rattle.m88_parse.specs.declared.unit.Module.{Module}
use Rattle.m88_parse.specs.declared.unit.Statement.{Statement}
use Rattle.m88_link.specs.Bases.{Placement, first_text, text_end, up_to_multiple}
use Rattle.m88_link.specs.Layout.{Extent, Reference}
use Rattle.m88_link.specs.Linked.{start_address}
use Rattle.m88_link.specs.Refusal.{AreDisjoint, IsLinkable, covers, duplicate, hits, is_too_large, too_far, undefined}
use Rattle.m88_link.specs.Symbols.{symbol_of}
use Rattle.m88_link.specs.declared.fault.LinkFault.{LinkFault}
use Rattle.m88_link.specs.declared.object.Symbol.{Symbol}
use Rattle.m88_asm.specs.Accepted.{IsAcceptedUnit}
use Rattle.m88_asm.specs.declared.fault.AsmFault.{AsmFault}
use Rattle.m88_asm.specs.Counters.{at_begin}
use Rattle.m88_asm.specs.Faults.{IsAssembled, module_fault}
use Rattle.m88_asm.specs.Images.{run_of, unit_byte, unit_start}
use Rattle.m88_asm.specs.Objects.{Head, declares, first_heads, heads_in, lines_in, marked, symbol_uses, symbols_in, symbols_of}
use Rattle.m88_asm.specs.Units.{base_in, extent_under, extents_in, globals_in, references_in, section_length, unit_layout, value_in_module}
use Rattle.m88_disasm.proofs.Accepting.{AreFew, bases_are, faultless, fitting_behind, opened_in, opened_sections, parts_fitting, parts_heads, sets_heads}
use Rattle.m88_disasm.proofs.Bodies.{ArePieces}
use Rattle.m88_disasm.proofs.Given.{Means, Names, PartsData, Sets}
use Rattle.m88_disasm.proofs.Linking.{AreInOrder, RoomsAre, hits_cons, lengths_behind, no_room, parts_lengths, room, rooms_apart, rooms_are, rooms_count, rooms_low}
use Rattle.m88_disasm.proofs.Naming.{AreLow, AreNamed, AreOnce, HasName, IsInReach, MeanAll, MeanOne, global_value, meaning_is, named_behind, names_in, new_symbols, no_bad_reference, no_duplicate, parts_named, parts_use, symbol_names, uses_behind}
use Rattle.m88_disasm.proofs.Rows.{unit_of}
use Rattle.m88_disasm.proofs.Standing.{Bases, Empty, bytes_behind, parts_bytes}

-- what such a source is made of: statements that name values, and those that give the bytes of parts; each name stands for
-- one address and is defined once, and `_start` is one of them
pub record IsWritten (Named : Names) (start : ℕ) (runs : List Placed) (sets xs : List Statement) : Type 0 where
  pub are_sets : Sets Named sets
  pub datas : PartsData Named runs xs
  pub low : AreLow Named
  pub one : MeanOne Named
  pub once : AreOnce [] (names_in (sets ++ xs))
  pub defined : (name : List ℕ) (a : ℕ) → Named name a → HasName name (names_in (sets ++ xs))
  pub starts : Named (codes "_start") start
  pub pieces : ArePieces runs
  pub order : AreInOrder 0 runs
  pub few : count_among runs ≤ most_bytes

-- the one module of statements
abbrev pub main : List Statement → Module
main xs = record { name = codes "main"; line = 1; statements = xs }

-- where it stands
abbrev pub stood : List Statement → Placement Module
stood xs = record {
  part = main xs;
  text_at = up_to_multiple 8 first_text;
  data_at = up_to_multiple 8 (up_to_multiple 4096 (text_end section_length first_text (main xs ∷ [])));
}

pub empty_first : Empty at_begin
empty_first = record {
  fresh = record { count = refl; empty = λ j h. refl };
  begins = refl;
  text = refl;
  here = refl;
}

-- sections
pub heads_are : (Named : Names) (sets xs : List Statement) → Sets Named sets
    → heads_in (main (sets ++ xs)) ≡ first_heads 1 ++ opened_in xs
heads_are Named sets xs are =
    ap (λ (hs : List Head). first_heads 1 ++ hs) (opened_sections at_begin (sets ++ xs) ∙ sets_heads Named sets xs are)

pub bases : (Named : Names) (start : ℕ) (runs : List Placed) (sets xs : List Statement)
    → IsWritten Named start runs sets xs → Bases (stood (sets ++ xs)) 2 runs
bases Named start runs sets xs w =
    bases_are (stood (sets ++ xs)) 2 (first_heads 1) (opened_in xs) runs (heads_are Named sets xs w.are_sets) refl
    (parts_heads Named runs xs w.datas)

-- symbols
symbols_named : (Named : Names) (start : ℕ) (runs : List Placed) (sets xs : List Statement)
    → IsWritten Named start runs sets xs
    → AreNamed Named (base_in (stood (sets ++ xs))) (flat_map symbols_of (lines_in (main (sets ++ xs))))
symbols_named Named start runs sets xs w =
    let d : Placement Module = stood (sets ++ xs) in
    named_behind Named (base_in d) at_begin sets xs w.are_sets empty_first
    (λ e h. parts_named Named d e 2 runs xs w.low (bases Named start runs sets xs w) h.fresh w.datas)

-- a mark says nothing of names and values
marked_names : (statements : List Statement) (ss : List Symbol)
    → map (λ (s : Symbol). s.name) (map (marked statements) ss) ≡ map (λ (s : Symbol). s.name) ss
marked_names statements [] = refl
marked_names statements (s ∷ ss) =
    ap (λ (ns : List (List ℕ)). let ms : List (List ℕ) = s.name ∷ ns in ms) (marked_names statements ss)

marked_named : (Named : Names) (base : ℕ → ℕ) (statements : List Statement) (ss : List Symbol) → AreNamed Named base ss
    → AreNamed Named base (map (marked statements) ss)
marked_named Named base statements [] are = tt
marked_named Named base statements (s ∷ ss) are = (are.0, marked_named Named base statements ss are.1)

start_marked : (statements : List Statement) (ss : List Symbol)
    → AllByRecursion (λ (s : Symbol). s.name ≡ codes "_start" → s.global ≡ true) (map (marked statements) ss)
start_marked statements [] = tt
start_marked statements (s ∷ ss) = (
  λ same.
      ap (λ (t : Bool). t || list_any (λ (x : Statement). declares s.name x.body) statements)
      ((bytes_eq-Decides s.name (codes "_start")).1 same),
  start_marked statements ss,
)

names_are : (sets xs : List Statement)
    → map (λ (s : Symbol). s.name) (symbols_in (main (sets ++ xs))) ≡ names_in (sets ++ xs)
names_are sets xs =
    marked_names (sets ++ xs) (flat_map symbols_of (lines_in (main (sets ++ xs)))) ∙ symbol_names at_begin (sets ++ xs)

are_named : (Named : Names) (start : ℕ) (runs : List Placed) (sets xs : List Statement)
    → IsWritten Named start runs sets xs
    → AreNamed Named (base_in (stood (sets ++ xs))) (symbols_in (main (sets ++ xs)))
are_named Named start runs sets xs w =
    marked_named Named (base_in (stood (sets ++ xs))) (sets ++ xs) (flat_map symbols_of (lines_in (main (sets ++ xs))))
    (symbols_named Named start runs sets xs w)

-- each name means what it stands for
pub means_all : (Named : Names) (start : ℕ) (runs : List Placed) (sets xs : List Statement) (g : List Symbol)
    → IsWritten Named start runs sets xs
    → MeanAll Named g (base_in (stood (sets ++ xs))) (symbols_in (main (sets ++ xs)))
means_all Named start runs sets xs g w name a named =
    let base = base_in (stood (sets ++ xs)) in
    ap (λ (o : Option ℕ). option_or o (option_map (λ s. s.value) (symbol_of g name)))
    (meaning_is Named base (symbols_in (main (sets ++ xs))) name a w.one named (are_named Named start runs sets xs w)
    (subst (HasName name) (sym (names_are sets xs)) (w.defined name a named)))

means : (Named : Names) (start : ℕ) (runs : List Placed) (sets xs : List Statement) (g : List Symbol)
    → IsWritten Named start runs sets xs → Means Named (value_in_module g (stood (sets ++ xs)))
means Named start runs sets xs g w name a named =
    ap (λ (o : Option ℕ). unwrap_or o 0) (means_all Named start runs sets xs g w name a named)

-- faults
few_each : (runs : List Placed) → count_among runs ≤ most_bytes → AreFew runs
few_each [] few = tt
few_each (run ∷ runs) few =
    let e = sum_by-cons (λ (r : Placed). length r.bytes) run runs in
    (omega (arith, e), few_each runs (omega (arith, e)))

assembled : (Named : Names) (start : ℕ) (runs : List Placed) (sets xs : List Statement)
    → IsWritten Named start runs sets xs → IsAssembled (unit_of (sets ++ xs))
assembled Named start runs sets xs w =
    let whole : module_fault (main (sets ++ xs)) ≡ None =
    faultless [] (lines_in (main (sets ++ xs))) (new_symbols [] at_begin (sets ++ xs) w.once)
    (fitting_behind Named at_begin sets xs w.are_sets empty_first
    (λ e h. parts_fitting Named e 2 runs xs w.pieces (few_each runs w.few) h.fresh w.datas)) in
    ap (λ (o : Option AsmFault). option_or o None) whole

-- rooms
lengths_are : (Named : Names) (start j : ℕ) (runs : List Placed) (sets xs : List Statement)
    → IsWritten Named start runs sets xs → section_length j (main (sets ++ xs)) ≡ room 2 runs j
lengths_are Named start j runs sets xs w =
    lengths_behind Named j at_begin sets xs (room 2 runs j) w.are_sets empty_first
    (λ e h. parts_lengths Named j e 2 runs xs h.fresh w.datas)

-- the extents: two without bytes, and those of the parts
record Rooms (runs : List Placed) (xs : List Statement) : Type 0 where
  first : Extent
  second : Extent
  others : List Extent
  extents : extents_in (stood xs) ++ [] ≡ first ∷ second ∷ others
  first_low : first.at ≤ 2 ^ 32
  second_low : second.at ≤ 2 ^ 32
  first_none : first.len ≡ 0
  second_none : second.len ≡ 0
  are : RoomsAre others runs

rooms : (Named : Names) (start : ℕ) (runs : List Placed) (sets xs : List Statement)
    → IsWritten Named start runs sets xs → Rooms runs (sets ++ xs)
rooms Named start runs sets xs w =
    let d : Placement Module = stood (sets ++ xs) in
    let none : section_length 0 (main (sets ++ xs)) ≡ 0 = lengths_are Named start 0 runs sets xs w
    ∙ no_room 2 0 runs (omega arith) in
    let datas_at : d.data_at ≡ 4096 =
    ap (λ (n : ℕ). up_to_multiple 8 (up_to_multiple 4096 (up_to_multiple 8 first_text + n))) none in
    record {
      first = record { at = d.text_at; len = section_length 0 (main (sets ++ xs)); line = 1 };
      second = record { at = d.data_at; len = section_length 1 (main (sets ++ xs)); line = 1 };
      others = map (extent_under d) (enumerate_from 2 (opened_in xs));
      extents =
          append-nil (extents_in d)
          ∙ ap (λ (hs : List Head). map (extent_under d) (enumerate_from 0 hs)) (heads_are Named sets xs w.are_sets);
      first_low = omega arith;
      second_low = subst (λ (n : ℕ). n ≤ 4294967296) (sym datas_at) (omega arith);
      first_none = none;
      second_none = lengths_are Named start 1 runs sets xs w ∙ no_room 2 1 runs (omega arith);
      are = rooms_are d 2 (opened_in xs) runs (parts_heads Named runs xs w.datas)
          (λ j h. lengths_are Named start j runs sets xs w);
    }

too_large_not : (es : List Extent) (r s : Extent) (runs : List Placed) → r.at ≤ 2 ^ 32 → s.at ≤ 2 ^ 32 → r.len ≡ 0
    → s.len ≡ 0
    → RoomsAre es runs → ArePieces runs → count_among runs ≤ most_bytes → is_too_large (r ∷ s ∷ es) ≡ false
too_large_not es r s runs r_low s_low r_none s_none are pieces few =
    let one = sum_by-cons (λ (e : Extent). e.len) r (s ∷ es) in
    let two = sum_by-cons (λ (e : Extent). e.len) s es in
    let all = rooms_count es runs are in
    ap (λ (t : Bool). t || list_any (λ (e : Extent). nat_lt (2 ^ 32) (e.at + e.len)) (r ∷ s ∷ es))
    (le-ltb most_bytes (sum_by (λ (e : Extent). e.len) (r ∷ s ∷ es)) (omega (arith, one, two, all)))
    ∙ ap (λ (t : Bool). t || list_any (λ (e : Extent). nat_lt (2 ^ 32) (e.at + e.len)) (s ∷ es))
    (le-ltb (2 ^ 32) (r.at + r.len) (omega arith))
    ∙ ap (λ (t : Bool). t || list_any (λ (e : Extent). nat_lt (2 ^ 32) (e.at + e.len)) es)
    (le-ltb (2 ^ 32) (s.at + s.len) (omega arith))
    ∙ rooms_low es runs are pieces

empty_covers : (a : ℕ) (e : Extent) → e.len ≡ 0 → covers a e ≡ false
empty_covers a e h = grind (arith, nat_tests)

disjoint_with : (es : List Extent) (r s : Extent) → r.len ≡ 0 → s.len ≡ 0 → AreDisjoint es → AreDisjoint (r ∷ s ∷ es)
disjoint_with es r s r_none s_none apart a =
    let one : hits (r ∷ s ∷ es) a ≡ 0 + hits (s ∷ es) a =
    hits_cons r (s ∷ es) a ∙ ap (λ (t : Bool). cond t 1 0 + hits (s ∷ es) a) (empty_covers a r r_none) in
    let two : hits (s ∷ es) a ≡ 0 + hits es a =
    hits_cons s es a ∙ ap (λ (t : Bool). cond t 1 0 + hits es a) (empty_covers a s s_none) in
    let k = apart a in
    omega (arith, one, two, k)

linkable : (Named : Names) (start : ℕ) (runs : List Placed) (sets xs : List Statement)
    → IsWritten Named start runs sets xs → IsLinkable (unit_layout (unit_of (sets ++ xs)))
linkable Named start runs sets xs w =
    let d : Placement Module = stood (sets ++ xs) in
    let g : List Symbol = globals_in d ++ [] in
    let ss : List Symbol = symbols_in (main (sets ++ xs)) in
    let r : Rooms runs (sets ++ xs) = rooms Named start runs sets xs w in
    let reach : AllByRecursion (IsInReach Named d) (flat_map symbol_uses (lines_in (main (sets ++ xs)))) =
    uses_behind Named d at_begin sets xs w.are_sets empty_first
    (λ e h. parts_use Named d e 2 runs xs (bases Named start runs sets xs w) h.fresh w.datas) in
    let bad = no_bad_reference Named g d ss (flat_map symbol_uses (lines_in (main (sets ++ xs)))) w.low
    (means_all Named start runs sets xs g w) reach in
    let once : AreOnce [] (map (λ (s : Symbol). s.name) ss) = subst (AreOnce []) (sym (names_are sets xs)) w.once in
    let single : duplicate (globals_in d ++ []) ≡ None =
    ap duplicate (append-nil (globals_in d)) ∙ no_duplicate (base_in d) ss once in
    let all : references_in g d ++ [] ≡ references_in g d = append-nil (references_in g d) in
    record {
      fits =
          ap is_too_large r.extents
          ∙ too_large_not r.others r.first r.second runs r.first_low r.second_low r.first_none r.second_none r.are
          w.pieces w.few;
      disjoint =
          subst AreDisjoint (sym r.extents)
          (disjoint_with r.others r.first r.second r.first_none r.second_none
          (rooms_apart r.others runs 0 r.are w.order));
      named =
          ap (λ (o : Option LinkFault). option_or o
          (option_or (undefined (references_in g d ++ [])) (too_far (references_in g d ++ [])))) single
          ∙ ap (λ (rs : List Reference). option_or (undefined rs) (too_far rs)) all
          ∙ ap (λ (o : Option LinkFault). option_or o (too_far (references_in g d))) bad.0
          ∙ bad.1;
    }

-- it is accepted
pub accepted : (Named : Names) (start : ℕ) (runs : List Placed) (sets xs : List Statement)
    → IsWritten Named start runs sets xs → IsAcceptedUnit (unit_of (sets ++ xs))
accepted Named start runs sets xs w =
    record { assembled = assembled Named start runs sets xs w; linkable = linkable Named start runs sets xs w }

-- its bytes are those of the parts
pub bytes_are : (Named : Names) (start : ℕ) (runs : List Placed) (sets xs : List Statement) (a : ℕ)
    → IsWritten Named start runs sets xs → unit_byte (unit_of (sets ++ xs)) a ≡ byte_among runs a
bytes_are Named start runs sets xs a w =
    let d : Placement Module = stood (sets ++ xs) in
    let g : List Symbol = globals_in d ++ [] in
    ap (λ (rs : List Placed). byte_among rs a) (append-nil (map (run_of g d) (lines_in (main (sets ++ xs)))))
    ∙ bytes_behind Named g d a at_begin sets xs (byte_among runs a) w.are_sets empty_first
    (λ e h. parts_bytes Named g d a e 2 runs xs (means Named start runs sets xs g w) (bases Named start runs sets xs w)
    h.fresh w.datas)

-- and it starts where `_start` is said to be
pub start_is : (Named : Names) (start : ℕ) (runs : List Placed) (sets xs : List Statement)
    → IsWritten Named start runs sets xs → unit_start (unit_of (sets ++ xs)) ≡ start
start_is Named start runs sets xs w =
    let d : Placement Module = stood (sets ++ xs) in
    let ss : List Symbol = symbols_in (main (sets ++ xs)) in
    ap start_address (append-nil (globals_in d))
    ∙ by (symbol_of (globals_in d) (codes "_start"))
    (global_value Named (base_in d) ss (codes "_start") start w.one w.starts (are_named Named start runs sets xs w)
    (subst (HasName (codes "_start")) (sym (names_are sets xs)) (w.defined (codes "_start") start w.starts))
    (start_marked (sets ++ xs) (flat_map symbols_of (lines_in (main (sets ++ xs))))))
  where
    by : (o : Option Symbol) → option_map (λ s. s.value) o ≡ Some start
        → option_map_or (λ s. s.value) o first_text ≡ start
    by None e = ap (λ (p : Option ℕ). unwrap_or p first_text) e
    by (Some s) e = ap (λ (p : Option ℕ). unwrap_or p first_text) e
