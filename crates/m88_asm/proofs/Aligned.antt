-- The instructions of a unit without a fault stand at multiples of 4.
use Rattle.std.proofs.Common.{ℕ, zero, suc, Bool, true, false, ◌≡◌, ◌+◌, ◌%◌, ◌<◌, ◌⊎◌, inl, inr, List, [], ◌∷◌, ◌++◌, length, Option, Some, None, refl, sym, ◌∙◌, ap, subst, arith}
use Rattle.std.specs.Prelude.{◌==◌, if◌then◌else◌, slice_get}
use Rattle.std.specs.Option.{option_map, option_map_or, option_or}
use Rattle.std.proofs.lemmas.Bool.{eqb-true}
use Rattle.std.proofs.lemmas.Option.{slice_get-get_or}
use Rattle.m88_isa.specs.declared.instr.Instr.{Instr}
use Rattle.m88_parse.specs.declared.unit.Body.{Body}
use Rattle.m88_parse.specs.declared.unit.Body.TheVariants as body
use Rattle.m88_parse.specs.declared.unit.Module.{Module}
use Rattle.m88_parse.specs.declared.unit.Statement.{Statement}
use Rattle.m88_parse.specs.declared.unit.Unit.{Unit as Source}
use Rattle.m88_link.specs.declared.object.Object.{Object}
use Rattle.m88_link.specs.declared.object.Place.{Place}
use Rattle.m88_link.specs.declared.object.Place.TheVariants.{Text, DataSection, At}
use Rattle.m88_link.specs.declared.object.Section.{Section}
use Rattle.m88_link.specs.declared.object.Symbol.{Symbol}
use Rattle.m88_base.specs.Pages.{page_bytes}
use Rattle.m88_link.specs.Bases.{Placement, base_at, first_text, stood_from, text_end, up_to_multiple}
use Rattle.m88_link.specs.Sound.{origin}
use Rattle.m88_link.specs.Symbols.{repeated_after}
use Rattle.m88_asm.specs.Counters.{Counters, Located, after, at_begin, at_section, located, offset_here, place_here}
use Rattle.m88_asm.specs.Inside.Drafts.{HasSections, counters_of, empty_growth, no_section, with_statements}
use Rattle.m88_asm.specs.Faults.{IsAssembled, alignment_of, misfit_at, misplaced_at, statements_fault, module_fault, modules_fault, too_large_at}
use Rattle.m88_asm.specs.Images.{code_at, code_in, first_of, module_code, placed_instruction}
use Rattle.m88_asm.specs.Objects.{Head, heads_in, sections_in, symbols_of}
use Rattle.m88_asm.specs.Units.{address_in, base_in, based, section_length, unit_layout, value_in_module}
use Rattle.m88_asm.proofs.Assembling.{counters_empty, grown_object, none_of_both}
use Rattle.m88_asm.proofs.Composing.{EachBased, under_head}
use Rattle.m88_asm.proofs.Sounding.{Extends, Stands, after_all_extends, after_stands, counters_after, counters_grown, entered_stands, first_parts, no_fault_else}

-- a statement's section and offset, with the counters that its module ends with
record Spot (b : Placement Module) (end : Counters) (a : ℕ) : Type 0 where
  section : ℕ
  offset : ℕ
  there : section < end.count
  is : base_in b section + offset ≡ a
  even : (end.starts section + offset) % 4 ≡ 0

body_even : (value : List ℕ → ℕ) (address place : ℕ) (x : Body) (i : Instr) → code_in value address x ≡ Some i → place % alignment_of x ≡ 0 → place % 4 ≡ 0
body_even value address place (body.Code instr fixup) i h e = e
body_even value address place _ i h e = cc

either_code : {A : Type 0} (o q : Option A) (v : A) → option_or o q ≡ Some v → (o ≡ Some v) ⊎ (q ≡ Some v)
either_code (Some x) q v h = inl h
either_code None q v h = inr h

row_spot : (globals : List Symbol) (b : Placement Module) (a : ℕ) (i : Instr) (c end : Counters) (x : Statement) → Stands c → Extends (after c x.body) end
    → misfit_at (offset_here (at_section c x.body)) (place_here (at_section c x.body)) x ≡ None
    → code_at globals b a (record { before = c; statement = x }) ≡ Some i → Spot b end a
row_spot globals b a i c end x s e m h = by (address_in b r == a) refl h
  where
    r : Located
    r = record { before = c; statement = x }

    by : (t : Bool) → (address_in b (record { before = c; statement = x }) == a) ≡ t
        → (if t then code_in (value_in_module globals b) (address_in b (record { before = c; statement = x })) x.body else None) ≡ Some i → Spot b end a
    by true t h =
        let d = at_section c x.body in
        let p = eqb-true _ 0 (no_fault_else _ _ (none_of_both (misplaced_at (place_here d) x) (too_large_at (offset_here d) (place_here d) x) m).0) in
        let n = entered_stands c x.body s in
        let even = body_even (value_in_module globals b) (base_in b d.here + offset_here d) (place_here d) x.body i h p in
        record {
          section = d.here;
          offset = offset_here d;
          there = omega (arith, n.here, e.count);
          is = eqb-true (base_in b d.here + offset_here d) a t;
          even = ap (λ y. (y + offset_here d) % 4) (e.starts d.here n.here) ∙ even;
        }
    by false t h = cc

rows_spot : (globals : List Symbol) (b : Placement Module) (a : ℕ) (i : Instr) (defined : List Symbol) (c : Counters) (xs : List Statement) → Stands c
    → statements_fault defined (located c xs) ≡ None → first_of (code_at globals b a) (located c xs) ≡ Some i → Spot b (counters_after c xs) a
unfolding located counters_after
rows_spot globals b a i defined c [] s f h = cc
rows_spot globals b a i defined c (x ∷ xs) s f h =
    let r : Located = record { before = c; statement = x } in
    let rest = located (after c x.body) xs in
    let parts = first_parts defined c x xs f in
    let misfit = (none_of_both (option_map _ (repeated_after defined (symbols_of r))) (misfit_at (offset_here (at_section c x.body)) (place_here (at_section c x.body)) x) parts.0).1 in
    elim (either_code (code_at globals b a r) (first_of (code_at globals b a) rest) i h) [
      | inl e ↦ row_spot globals b a i c (counters_after (after c x.body) xs) x s (after_all_extends (after c x.body) xs) misfit e
      | inr e ↦ rows_spot globals b a i (defined ++ symbols_of r) (after c x.body) xs (after_stands c x.body s) parts.1 e
    ]

-- an address counts as its section's number for alignment does
address_even : (b : Placement Module) (p : Place) → b.text_at % 4 ≡ 0 → b.data_at % 4 ≡ 0 → base_at b p % 4 ≡ origin p % 4
address_even b Text t d = t
address_even b DataSection t d = d
address_even b (At a) t d = refl

heads_even : (b : Placement Module) (hs : List Head) (k : ℕ) → b.text_at % 4 ≡ 0 → b.data_at % 4 ≡ 0
    → option_map_or (λ (h : Head). base_at b h.place) (slice_get hs k) 0 % 4 ≡ option_map_or (λ (h : Head). origin h.place) (slice_get hs k) 0 % 4
heads_even b [] k t d = refl
heads_even b (h ∷ hs) zero t d = address_even b h.place t d
heads_even b (h ∷ hs) (suc k) t d = heads_even b hs k t d

-- the counters that a module ends with
ends_with : (m : Module) (k : ℕ) → k < (counters_after at_begin m.statements).count
    → (counters_after at_begin m.statements).starts k ≡ option_map_or (λ (h : Head). origin h.place) (slice_get (heads_in m) k) 0
ends_with m k l =
    let start = empty_growth m.line in
    let end = with_statements start m.statements in
    let opened : HasSections start.sections start.here = record { both = omega arith; stands = omega arith } in
    let same : end.sections ≡ sections_in m = ap (λ (o : Object). o.sections) (grown_object m) in
    let counters : counters_of end.sections end.here ≡ counters_after at_begin m.statements =
    counters_grown start m.statements opened ∙ ap (λ c. counters_after c m.statements) (counters_empty m.line) in
    let n : k < length end.sections = subst (λ (c : Counters). k < c.count) (sym counters) l in
    ap (λ (c : Counters). c.starts k) (sym counters)
    ∙ ap (λ o. option_map_or (λ (s : Section). origin s.place) o 0) (sym (slice_get-get_or end.sections k no_section n))
    ∙ ap (λ xs. option_map_or (λ (s : Section). origin s.place) (slice_get xs k) 0) same
    ∙ under_head m origin 0 (heads_in m) k

module_even : (globals : List Symbol) (b : Placement Module) (a : ℕ) (i : Instr) → b.text_at % 4 ≡ 0 → b.data_at % 4 ≡ 0 → module_fault b.part ≡ None
    → module_code globals a b ≡ Some i → a % 4 ≡ 0
module_even globals b a i t d f h =
    let s = rows_spot globals b a i [] at_begin b.part.statements (record { both = omega arith; here = omega arith }) f h in
    let starts = ends_with b.part s.section s.there in
    let bases = heads_even b (heads_in b.part) s.section t d in
    omega (arith, s.is, s.even, starts, bases)

-- all modules
abbrev EvenOn : Placement Module → Type 0
EvenOn b = (b.text_at % 4 ≡ 0) × (b.data_at % 4 ≡ 0) × (module_fault b.part ≡ None)

up_even : (n : ℕ) → up_to_multiple 8 n % 4 ≡ 0
up_even n = omega arith

each_even : (text datas : ℕ) (ms : List Module) → modules_fault ms ≡ None → EachBased EvenOn (stood_from section_length text datas ms)
each_even text datas [] h = tt
each_even text datas (m ∷ ms) h =
    let p = none_of_both (module_fault m) (modules_fault ms) h in
    ((up_even text, up_even datas, p.0), each_even (up_to_multiple 8 text + section_length 0 m) (up_to_multiple 8 datas + section_length 1 m) ms p.1)

modules_even : (globals : List Symbol) (a : ℕ) (i : Instr) (bs : List (Placement Module)) → EachBased EvenOn bs → first_of (module_code globals a) bs ≡ Some i → a % 4 ≡ 0
modules_even globals a i [] f h = cc
modules_even globals a i (b ∷ bs) f h = elim (either_code (module_code globals a b) (first_of (module_code globals a) bs) i h) [
  | inl e ↦ module_even globals b a i f.0.0 f.0.1 f.0.2 e
  | inr e ↦ modules_even globals a i bs f.1 e
]

pub aligned_law : (u : Source) (a : ℕ) (i : Instr) → IsAssembled u → placed_instruction u a ≡ Some i → a % 4 ≡ 0
aligned_law u a i f h =
    modules_even (unit_layout u).globals a i (based u) (each_even first_text (up_to_multiple page_bytes (text_end section_length first_text u.modules)) u.modules f) h
