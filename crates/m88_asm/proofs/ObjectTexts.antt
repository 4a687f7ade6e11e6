-- The objects of the unit of a source that is not too long have a text, where the unit's statements meet no fault.
use Rattle.std.proofs.Common.{◌≡◌, ℕ, zero, suc, ◌+◌, ◌%◌, ◌<◌, ◌≤◌, ◌^◌, ◌==◌, Bool, true, false, cond, List, [], ◌∷◌, ◌++◌, map, flat_map, replicate, Option, None, Some, length, refl, ap, arith, length-append}
use Rattle.std.specs.Prelude.{IfSome, IsSomeAnd, slice_get, sum_by}
use Rattle.std.specs.Int.{to_be_bytes, w16, w32}
use Rattle.std.specs.List.{AllByRecursion, enumerate_from}
use Rattle.std.proofs.lemmas.List.Elements.{recursion_from_All}
use Rattle.std.proofs.lemmas.List.Sums.{sum_by-cons}
use Rattle.m88_base.specs.Image.{most_bytes}
use Rattle.m88_base.specs.Name.{IsName}
use Rattle.m88_base.specs.declared.fixup.Fixup.{Fixup}
use Rattle.m88_base.specs.declared.fixup.Kind.{Kind}
use Rattle.m88_base.specs.declared.fixup.Kind.TheVariants.{Abs32}
use Rattle.m88_isa.specs.Word.{word_of}
use Rattle.m88_link.specs.ObjectRead.{HasRelocText, HasSectionText, HasSymbolText, HasText, HaveText}
use Rattle.m88_link.specs.Sound.{HasRoom, IsDefinedIn, IsPatchIn, IsSound, origin}
use Rattle.m88_link.specs.declared.object.Reloc.{Reloc}
use Rattle.m88_link.specs.declared.object.Section.{Section}
use Rattle.m88_link.specs.declared.object.Symbol.{Symbol}
use Rattle.m88_asm.specs.Counters.{Counters, Located, after, at_begin, located, offset_of, padding, place_of, section_of}
use Rattle.m88_asm.specs.Faults.{IsAssembled}
use Rattle.m88_asm.specs.Filled.{waiting_bytes, waiting_word}
use Rattle.m88_asm.specs.Objects.{Head, heads_in, labels_at, lines_in, marked, object_of, objects_of, opened_by, opens, section_under, sections_in, sets_at, symbol_uses, symbols_in, symbols_of, use_at, use_in_code, uses_in_body, uses_in_values, waiting_in}
use Rattle.m88_parse.specs.Language.Units.{IsUnit}
use Rattle.m88_parse.specs.declared.unit.Body.{Body}
use Rattle.m88_parse.specs.declared.unit.Body.TheVariants as body
use Rattle.m88_parse.specs.declared.unit.Module.{Module}
use Rattle.m88_parse.specs.declared.unit.Statement.{Statement}
use Rattle.m88_parse.specs.declared.unit.Unit.{Unit as Source}
use Rattle.m88_parse.specs.declared.unit.Value.{Value}
use Rattle.m88_parse.specs.declared.unit.Value.TheVariants as word
use Rattle.m88_asm.proofs.UnitRanges.{IsRangedBody, IsRangedFixup, IsRangedModule, IsRangedStatement, IsRangedValue, unit_ranged}
use Rattle.m88_asm.proofs.UnitSound.{modules_sound}
use Rattle.m88_parse.proofs.Laws.{AreSmall, unit_formed}

-- lists by parts
all_append : {A : Type 0} (P : A → Type 0) (xs ys : List A) → AllByRecursion P xs → AllByRecursion P ys
    → AllByRecursion P (xs ++ ys)
all_append P [] ys h k = k
all_append P (x ∷ xs) ys h k = (h.0, all_append P xs ys h.1 k)

either_all : (t : Bool) (xs ys : List ℕ) → AreSmall xs → AreSmall ys → AreSmall (cond t xs ys)
either_all true xs ys h k = h
either_all false xs ys h k = k

all_flat : {A : Type 0} (f : A → List ℕ) (xs : List A) → ((x : A) → AreSmall (f x)) → AreSmall (flat_map f xs)
all_flat f [] h = tt
all_flat f (x ∷ xs) h = all_append (λ b. b < 2 ^ 8) (f x) (flat_map f xs) (h x) (all_flat f xs h)

both_all : {A : Type 0} (P Q R : A → Type 0) (xs : List A) → ((x : A) → P x → Q x → R x) → AllByRecursion P xs
    → AllByRecursion Q xs → AllByRecursion R xs
both_all P Q R [] on h k = tt
both_all P Q R (x ∷ xs) on h k = (on x h.0 k.0, both_all P Q R xs on h.1 k.1)

-- what statements give are bytes
word_small : (n : ℕ) → AreSmall (to_be_bytes w32 n)
word_small n = (omega arith, (omega arith, (omega arith, (omega arith, tt))))

half_small : (n : ℕ) → AreSmall (to_be_bytes w16 n)
half_small n = (omega arith, (omega arith, tt))

zeros_small : (n : ℕ) → AreSmall (replicate n 0)
zeros_small zero = tt
zeros_small (suc n) = (omega arith, zeros_small n)

body_small : (place : ℕ) (b : Body) → IsRangedBody b → AreSmall (waiting_bytes place b)
body_small place (body.Word values) h =
    all_flat (λ v. to_be_bytes w32 (waiting_word v)) values (λ v. word_small (waiting_word v))
body_small place (body.Half numbers) h = all_flat (λ n. to_be_bytes w16 n) numbers half_small
body_small place (body.Byte bytes) h = h
body_small place (body.Ascii bytes) h = h
body_small place (body.Zero n) h = zeros_small n
body_small place (body.Align n) h = zeros_small (padding n place)
body_small place (body.Code i fixup) h = word_small (word_of i)
body_small place _ h = tt

section_small : (k : ℕ) (c : Counters) (xs : List Statement) → AllByRecursion IsRangedStatement xs
    → AreSmall (flat_map (waiting_in k) (located c xs))
unfolding located
section_small k c [] h = tt
section_small k c (x ∷ xs) h =
    let r : Located = record { before = c; statement = x } in
    all_append (λ b. b < 2 ^ 8) (waiting_in k r) (flat_map (waiting_in k) (located (after c x.body) xs))
    (either_all (section_of r == k) (waiting_bytes (place_of r) x.body) [] (body_small (place_of r) x.body h.0.body) tt)
    (section_small k (after c x.body) xs h.1)

-- where sections stand
abbrev IsRangedHead : Head → Type 0
IsRangedHead h = (origin h.place < 2 ^ 32) × (h.line < 2 ^ 32)

opened_ranged : (line : ℕ) (b : Body) → line < 2 ^ 32 → IsRangedBody b → AllByRecursion IsRangedHead (opened_by line b)
opened_ranged line (body.At a) small h = ((h, small), tt)
opened_ranged line _ small h = tt

opens_ranged : (c : Counters) (xs : List Statement) → AllByRecursion IsRangedStatement xs
    → AllByRecursion IsRangedHead (flat_map opens (located c xs))
unfolding located
opens_ranged c [] h = tt
opens_ranged c (x ∷ xs) h =
    all_append IsRangedHead (opened_by x.line x.body) (flat_map opens (located (after c x.body) xs))
    (opened_ranged x.line x.body h.0.line h.0.body) (opens_ranged (after c x.body) xs h.1)

few_opened : (line : ℕ) (b : Body) → length (opened_by line b) ≤ 1
few_opened line (body.At a) = omega arith
few_opened line _ = omega arith

few_opens : (c : Counters) (xs : List Statement) → length (flat_map opens (located c xs)) ≤ length xs
unfolding located
few_opens c [] = omega arith
few_opens c (x ∷ xs) =
    let size = length-append (opened_by x.line x.body) (flat_map opens (located (after c x.body) xs)) in
    omega (arith, size, few_opened x.line x.body, few_opens (after c x.body) xs)

sections_text : (m : Module) (n : ℕ) (hs : List Head) → AllByRecursion IsRangedStatement m.statements
    → AllByRecursion IsRangedHead hs
    → AllByRecursion HasRoom (map (section_under m) (enumerate_from n hs))
    → AllByRecursion HasSectionText (map (section_under m) (enumerate_from n hs))
sections_text m n [] ranged h room = tt
sections_text m n (x ∷ hs) ranged h room = (
  record {
    address = h.0.0;
    few = omega (arith, room.0.0);
    line = h.0.1;
    bytes = section_small n at_begin m.statements ranged;
  },
  sections_text m (n + 1) hs ranged h.1 room.1,
)

sections_count : (m : Module) (n : ℕ) (hs : List Head)
    → length (map (section_under m) (enumerate_from n hs)) ≡ length hs
sections_count m n [] = refl
sections_count m n (x ∷ hs) = ap suc (sections_count m (n + 1) hs)

-- symbols
record IsPlainSymbol (s : Symbol) : Type 0 where
  name : IsName s.name
  line : s.line < 2 ^ 32
  col : s.col < 2 ^ 32
  value : s.section ≡ None → s.value < 2 ^ 32

labels_plain : (c : Counters) (line : ℕ) (label : Option (List ℕ × ℕ)) → line < 2 ^ 32
    → IfSome label (λ l. IsName l.0 × (l.1 < 2 ^ 32))
    → AllByRecursion IsPlainSymbol (labels_at c line label)
labels_plain c line None small h = tt
labels_plain c line (Some l) small h = (record { name = h.0; line = small; col = h.1; value = λ e. absurd cc }, tt)

sets_plain : (line : ℕ) (b : Body) → line < 2 ^ 32 → IsRangedBody b → AllByRecursion IsPlainSymbol (sets_at line b)
sets_plain line (body.Set name col n) small h = (record { name = h.0; line = small; col = h.1; value = λ e. h.2 }, tt)
sets_plain line _ small h = tt

symbols_plain : (c : Counters) (xs : List Statement) → AllByRecursion IsRangedStatement xs
    → AllByRecursion IsPlainSymbol (flat_map symbols_of (located c xs))
unfolding located
symbols_plain c [] h = tt
symbols_plain c (x ∷ xs) h =
    all_append IsPlainSymbol (labels_at c x.line x.label ++ sets_at x.line x.body)
    (flat_map symbols_of (located (after c x.body) xs))
    (all_append IsPlainSymbol (labels_at c x.line x.label) (sets_at x.line x.body)
    (labels_plain c x.line x.label h.0.line h.0.label) (sets_plain x.line x.body h.0.line h.0.body))
    (symbols_plain (after c x.body) xs h.1)

marked_plain : (xs : List Statement) (ss : List Symbol) → AllByRecursion IsPlainSymbol ss
    → AllByRecursion IsPlainSymbol (map (marked xs) ss)
marked_plain xs [] h = tt
marked_plain xs (s ∷ ss) h = (
  record { name = h.0.name; line = h.0.line; col = h.0.col; value = h.0.value },
  marked_plain xs ss h.1,
)

-- a section that is found is one of those that there are, and has room
found_within : (xs : List Section) (k v : ℕ) (P : Section → Type 0) → ((s : Section) → P s → v ≤ length s.bytes)
    → AllByRecursion HasRoom xs
    → IsSomeAnd (slice_get xs k) P → (k < length xs) × (v ≤ most_bytes)
found_within [] k v P on room h = absurd h
found_within (x ∷ xs) zero v P on room h = (omega arith, omega (arith, on x h, room.0.0))
found_within (x ∷ xs) (suc k) v P on room h =
    let rest = found_within xs k v P on room.1 h in (omega (arith, rest.0), rest.1)

symbol_text : (xs : List Section) (s : Symbol) → length xs < 2 ^ 32 → AllByRecursion HasRoom xs → IsPlainSymbol s
    → IsDefinedIn xs s → HasSymbolText s
symbol_text xs s few room plain defined =
    let both = by s.section refl defined in
    record { name = plain.name; section = both.0; value = both.1; line = plain.line; col = plain.col }
  where
    by : (o : Option ℕ) → s.section ≡ o
        → IfSome o (λ k. IsSomeAnd (slice_get xs k) (λ (x : Section). s.value ≤ length x.bytes))
        → IfSome o (λ k. k < 2 ^ 32) × (s.value < 2 ^ 32)
    by None e h = (tt, plain.value e)
    by (Some k) e h =
        let w = found_within xs k s.value (λ (x : Section). s.value ≤ length x.bytes) (λ x l. l) room h in
        (omega (arith, w.0, few), omega (arith, w.1))

-- relocations
record IsPlainReloc (u : Reloc) : Type 0 where
  symbol : IsName u.symbol
  addend : u.addend < 2 ^ 32
  line : u.line < 2 ^ 32
  col : u.col < 2 ^ 32

use_plain : (kind : Kind) (section offset line : ℕ) (f : Fixup) → line < 2 ^ 32 → IsRangedFixup f
    → IsPlainReloc (use_at kind section offset line f)
use_plain kind section offset line f small h = record { symbol = h.name; addend = h.addend; line = small; col = h.col }

values_plain : (section offset line : ℕ) (vs : List Value) → line < 2 ^ 32 → AllByRecursion IsRangedValue vs
    → AllByRecursion IsPlainReloc (uses_in_values section offset line vs)
values_plain section offset line [] small h = tt
values_plain section offset line (word.Number n ∷ vs) small h = values_plain section (offset + 4) line vs small h.1
values_plain section offset line (word.Symbol f ∷ vs) small h =
    (use_plain Abs32 section offset line f small h.0, values_plain section (offset + 4) line vs small h.1)

code_plain : (section offset line : ℕ) (fixup : Option Fixup) → line < 2 ^ 32 → IfSome fixup IsRangedFixup
    → AllByRecursion IsPlainReloc (use_in_code section offset line fixup)
code_plain section offset line None small h = tt
code_plain section offset line (Some f) small h = (use_plain f.kind section offset line f small h, tt)

body_plain : (section offset line : ℕ) (b : Body) → line < 2 ^ 32 → IsRangedBody b
    → AllByRecursion IsPlainReloc (uses_in_body section offset line b)
body_plain section offset line (body.Word vs) small h = values_plain section offset line vs small h
body_plain section offset line (body.Code i fixup) small h = code_plain section offset line fixup small h
body_plain section offset line _ small h = tt

uses_plain : (c : Counters) (xs : List Statement) → AllByRecursion IsRangedStatement xs
    → AllByRecursion IsPlainReloc (flat_map symbol_uses (located c xs))
unfolding located
uses_plain c [] h = tt
uses_plain c (x ∷ xs) h =
    let r : Located = record { before = c; statement = x } in
    all_append IsPlainReloc (symbol_uses r) (flat_map symbol_uses (located (after c x.body) xs))
    (body_plain (section_of r) (offset_of r) x.line x.body h.0.line h.0.body) (uses_plain (after c x.body) xs h.1)

reloc_text : (xs : List Section) (u : Reloc) → length xs < 2 ^ 32 → AllByRecursion HasRoom xs → IsPlainReloc u
    → IsPatchIn xs u → HasRelocText u
reloc_text xs u few room plain patch =
    let w = found_within xs u.section u.offset
    (λ (s : Section). (u.offset + 4 ≤ length s.bytes) × ((origin s.place + u.offset) % 4 ≡ 0))
    (λ s l. omega (arith, l.0)) room patch in
    record {
      section = omega (arith, w.0, few);
      offset = omega (arith, w.1);
      symbol = plain.symbol;
      addend = plain.addend;
      line = plain.line;
      col = plain.col;
    }

-- the object of a module
module_text : (m : Module) → IsRangedModule m → length m.statements < 2 ^ 31 → IsSound (object_of m)
    → HasText (object_of m)
module_text m ranged short sound =
    let room = recursion_from_All HasRoom (sections_in m) sound.room in
    let heads : length (heads_in m) ≤ 2 + length m.statements = omega (arith, few_opens at_begin m.statements) in
    let few : length (sections_in m) < 2 ^ 32 = omega (arith, sections_count m 0 (heads_in m), heads, short) in
    let opened = opens_ranged at_begin m.statements ranged.statements in
    let plain = symbols_plain at_begin m.statements ranged.statements in
    record {
      name = ranged.name;
      order = sound.sections;
      sections =
          sections_text m 0 (heads_in m) ranged.statements
          ((omega arith, ranged.line), ((omega arith, ranged.line), opened)) room;
      symbols =
          both_all IsPlainSymbol (IsDefinedIn (sections_in m)) HasSymbolText (symbols_in m)
          (λ s. symbol_text (sections_in m) s few room)
          (marked_plain m.statements (flat_map symbols_of (lines_in m)) plain)
          (recursion_from_All (IsDefinedIn (sections_in m)) (symbols_in m) sound.symbols);
      relocs =
          both_all IsPlainReloc (IsPatchIn (sections_in m)) HasRelocText (flat_map symbol_uses (lines_in m))
          (λ u. reloc_text (sections_in m) u few room) (uses_plain at_begin m.statements ranged.statements)
          (recursion_from_All (IsPatchIn (sections_in m)) (flat_map symbol_uses (lines_in m)) sound.relocs);
    }

modules_text : (ms : List Module) → sum_by (λ (m : Module). length m.statements) ms < 2 ^ 31
    → AllByRecursion IsRangedModule ms
    → AllByRecursion IsSound (map object_of ms) → AllByRecursion HasText (map object_of ms)
modules_text [] few ranged sound = tt
modules_text (m ∷ ms) few ranged sound =
    let all = sum_by-cons (λ (x : Module). length x.statements) m ms in (
      module_text m ranged.0 (omega (arith, few, all)) sound.0,
      modules_text ms (omega (arith, few, all)) ranged.1 sound.1,
    )

some_objects : (ms : List Module) → 0 < length ms → 0 < length (map object_of ms)
some_objects [] h = absurd (omega (arith, h))
some_objects (m ∷ ms) h = omega arith

-- the objects of a unit
pub objects_have_text : (source : List ℕ) (u : Source) → length source < 2 ^ 31 → IsUnit source u → IsAssembled u
    → HaveText (objects_of u)
objects_have_text source u short is assembled =
    let formed = unit_formed source u short is in
    record {
      some = some_objects u.modules formed.some;
      each = modules_text u.modules formed.few (unit_ranged source u short is) (modules_sound u.modules assembled);
    }
