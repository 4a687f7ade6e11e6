-- The objects of a unit whose statements meet no fault are sound.
use Rattle.std.proofs.Common.{◌≡◌, ℕ, ◌+◌, ◌≤◌, ◌^◌, ◌==◌, ◌||◌, Bool, true, false, nat_lt, List, [], ◌∷◌, ◌++◌, map, Option, None, Some, refl, sym, ap, ◌∙◌, subst, arith, flat_map}
use Rattle.std.specs.Prelude.{if◌then◌else◌}
use Rattle.std.specs.List.{All, AllByRecursion}
use Rattle.std.specs.Option.{option_map}
use Rattle.std.proofs.lemmas.Bool.{cond-false, cond_both, eqb-true}
use Rattle.std.proofs.lemmas.Bool.Decides.{nat_tests}
use Rattle.std.proofs.lemmas.List.Elements.{All-from_get_or}
use Rattle.m88_base.specs.Image.{most_bytes}
use Rattle.m88_link.proofs.Laws.{repeats_none}
use Rattle.m88_link.specs.Sound.{HasRoom, IsSound}
use Rattle.m88_link.specs.Symbols.{repeated_after}
use Rattle.m88_link.specs.declared.object.Object.{Object}
use Rattle.m88_link.specs.declared.object.Symbol.{Symbol}
use Rattle.m88_asm.proofs.Assembling.{counters_empty, grown_object, none_of_both}
use Rattle.m88_asm.proofs.Sounding.{counters_after, counters_grown, first_parts, sound_object}
use Rattle.m88_asm.specs.Counters.{Counters, Located, after, at_begin, at_section, here_at, length_at, located, offset_here, place_here}
use Rattle.m88_asm.specs.Inside.Drafts.{HasSections, counters_of, empty_growth, no_section, with_statements}
use Rattle.m88_asm.specs.Faults.{duplicate_at, fault_in, misfit_at, misplaced_at, module_fault, modules_fault, statements_fault, too_large_at}
use Rattle.m88_asm.specs.Objects.{object_of, sections_in, symbols_of}
use Rattle.m88_asm.specs.declared.fault.AsmFault.{AsmFault}
use Rattle.m88_parse.specs.declared.unit.Body.{Body}
use Rattle.m88_parse.specs.declared.unit.Body.TheVariants as body
use Rattle.m88_parse.specs.declared.unit.Module.{Module}
use Rattle.m88_parse.specs.declared.unit.Statement.{Statement}

-- every section so far has room
abbrev HaveRoom : Counters → Type 0
HaveRoom c = (k : ℕ) → (c.lengths k ≤ most_bytes) × (c.starts k + c.lengths k ≤ 2 ^ 32)

begin_room : HaveRoom at_begin
begin_room k = (omega arith, omega arith)

-- a statement begins no section but its own
other_starts : (c : Counters) (b : Body) (k : ℕ) → (here_at c b == k) ≡ false → (at_section c b).starts k ≡ c.starts k
other_starts c (body.At a) k h = cond-false (c.count == k) a (c.starts k) h
other_starts c _ k h = refl

no_fault : (b : Bool) (x : AsmFault) → (if b then Some x else None) ≡ None → b ≡ false
no_fault true x h = absurd cc
no_fault false x h = refl

few_bytes : (a b c d : ℕ) → (nat_lt a b || nat_lt c d) ≡ false → b ≤ a
few_bytes a b c d h = grind (arith, nat_tests)

low_end : (a b c d : ℕ) → (nat_lt a b || nat_lt c d) ≡ false → d ≤ c
low_end a b c d h = grind (arith, nat_tests)

-- a statement that fits leaves each section with room
after_room : (c : Counters) (x : Statement) → HaveRoom c
    → misfit_at (offset_here (at_section c x.body)) (place_here (at_section c x.body)) x ≡ None
    → HaveRoom (after c x.body)
after_room c x room fits k =
    let e = at_section c x.body in
    let n = length_at (place_here e) x.body in
    let large =
    (none_of_both (misplaced_at (place_here e) x) (too_large_at (offset_here e) (place_here e) x) fits).1 in
    let test = no_fault (nat_lt most_bytes (offset_here e + n) || nat_lt (2 ^ 32) (place_here e + n)) _ large in
    let few = few_bytes most_bytes (offset_here e + n) (2 ^ 32) (place_here e + n) test in
    let low = low_end most_bytes (offset_here e + n) (2 ^ 32) (place_here e + n) test in
    cond_both (e.here == k) (e.lengths e.here + n) (e.lengths k) (λ m. (m ≤ most_bytes) × (e.starts k + m ≤ 2 ^ 32))
    (λ t. let s = ap e.starts (eqb-true e.here k t) in (omega (arith, few), omega (arith, low, s)))
    (λ f. let s = other_starts c x.body k f in let r = room k in (omega (arith, r.0), omega (arith, r.1, s)))

misfit_none : (defined : List Symbol) (c : Counters) (x : Statement)
    → fault_in defined (record { before = c; statement = x }) ≡ None
    → misfit_at (offset_here (at_section c x.body)) (place_here (at_section c x.body)) x ≡ None
misfit_none defined c x h =
    let r : Located = record { before = c; statement = x } in
    (none_of_both (option_map duplicate_at (repeated_after defined (symbols_of r)))
    (misfit_at (offset_here (at_section c x.body)) (place_here (at_section c x.body)) x) h).1

rows_room : (defined : List Symbol) (c : Counters) (xs : List Statement) → HaveRoom c
    → statements_fault defined (located c xs) ≡ None
    → HaveRoom (counters_after c xs)
unfolding counters_after
rows_room defined c [] room h = room
rows_room defined c (x ∷ xs) room h =
    let parts = first_parts defined c x xs h in
    rows_room (defined ++ symbols_of (record { before = c; statement = x })) (after c x.body) xs
    (after_room c x room (misfit_none defined c x parts.0)) parts.1

module_room : (m : Module) → module_fault m ≡ None → All HasRoom (sections_in m)
module_room m clean =
    let start = empty_growth m.line in
    let end = with_statements start m.statements in
    let opened : HasSections start.sections start.here = record { both = omega arith; stands = omega arith } in
    let same : end.sections ≡ sections_in m = ap (λ (o : Object). o.sections) (grown_object m) in
    let counters : counters_of end.sections end.here ≡ counters_after at_begin m.statements =
    counters_grown start m.statements opened ∙ ap (λ c. counters_after c m.statements) (counters_empty m.line) in
    let room : HaveRoom (counters_of end.sections end.here) =
    subst HaveRoom (sym counters) (rows_room [] at_begin m.statements begin_room clean) in
    subst (All HasRoom) same (All-from_get_or HasRoom end.sections no_section (λ k l. room k))

-- no name is defined twice
unmapped : {A B : Type 0} (f : A → B) (o : Option A) → option_map f o ≡ None → o ≡ None
unmapped f None h = refl
unmapped f (Some x) h = absurd cc

rows_once : (defined : List Symbol) (c : Counters) (xs : List Statement)
    → statements_fault defined (located c xs) ≡ None
    → repeated_after defined (flat_map symbols_of (located c xs)) ≡ None
unfolding located
rows_once defined c [] h = refl
rows_once defined c (x ∷ xs) h =
    let r : Located = record { before = c; statement = x } in
    let parts = first_parts defined c x xs h in
    let once = unmapped duplicate_at (repeated_after defined (symbols_of r))
    (none_of_both (option_map duplicate_at (repeated_after defined (symbols_of r)))
    (misfit_at (offset_here (at_section c x.body)) (place_here (at_section c x.body)) x) parts.0).0 in
    repeats_none defined (symbols_of r) (flat_map symbols_of (located (after c x.body) xs)) once
    (rows_once (defined ++ symbols_of r) (after c x.body) xs parts.1)

pub module_sound : (m : Module) → module_fault m ≡ None → IsSound (object_of m)
module_sound m clean = sound_object m clean (rows_once [] at_begin m.statements clean) (module_room m clean)

pub modules_sound : (ms : List Module) → modules_fault ms ≡ None → AllByRecursion IsSound (map object_of ms)
modules_sound [] clean = tt
modules_sound (m ∷ ms) clean =
    let parts = none_of_both (module_fault m) (modules_fault ms) clean in
    (module_sound m parts.0, modules_sound ms parts.1)
