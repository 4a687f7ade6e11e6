-- Every branch of a source is a statement that waits for the name of its target, and the name means the target.
use Rattle.std.proofs.Common.{◌≡◌, ◌⊎◌, ℕ, suc, ◌+◌, inl, inr, List, [], ◌∷◌, ◌++◌, length, refl, sym, ap, subst, ◌∙◌, arith, length-append}
use Rattle.std.specs.Prelude.{Contains}
use Rattle.m88_base.specs.Image.{IsImage, ProgramImage}
use Rattle.m88_base.specs.Placed.{Placed}
use Rattle.m88_parse.proofs.Laws.{one_source_verdict}
use Rattle.m88_parse.specs.Language.Units.{IsUnit}
use Rattle.m88_parse.specs.declared.unit.Body.TheVariants as body
use Rattle.m88_parse.specs.declared.unit.Module.{Module}
use Rattle.m88_parse.specs.declared.unit.Statement.{Statement}
use Rattle.m88_parse.specs.declared.unit.Unit.{Unit as Source}
use Rattle.m88_link.specs.Bases.{Placement}
use Rattle.m88_link.specs.declared.object.Symbol.{Symbol}
use Rattle.m88_asm.specs.Counters.{Counters, Located, after, at_begin, located}
use Rattle.m88_asm.specs.Objects.{lines_in}
use Rattle.m88_asm.specs.Units.{address_in, base_in, globals_in}
use Rattle.m88_disasm.specs.Read.{unlabelled}
use Rattle.m88_disasm.proofs.Laws.{Bases, Data, Empty, Fresh, Names, PartsData, Sets, Stands, a_set, address_is, bases, empty_behind, empty_first, fresh_behind, located_cons, main, means_all, more_data, more_parts, no_data, no_parts, no_set, opens_part, stands_behind, stood, unit_of}
use Rattle.m88_sourcing.specs.Source.{IsSource}
use Rattle.m88_sourcing.specs.Targets.{NamesItsTargets}
use Rattle.m88_sourcing.proofs.Names.{named}
use Rattle.m88_sourcing.proofs.Places.{HasAt, IsBranchTo, NoPlaceIs, WaitsFor, no_branch, place_behind, place_given}
use Rattle.m88_sourcing.proofs.Rebuilt.{IsMade, source_made}
use Rattle.m88_sourcing.proofs.Told.{target_named}
use Rattle.m88_sourcing.specs.Said.{Said}

-- a row of a module that is so, at its address
record FoundRow (d : Placement Module) (rs : List Located) (Is : ℕ → Statement → Type 0) : Type 0 where
  row : Located
  among : Contains rs row
  is : Is (address_in d row) row.statement

found_behind : (d : Placement Module) (r : Located) (rs : List Located) (Is : ℕ → Statement → Type 0)
    → FoundRow d rs Is → FoundRow d (r ∷ rs) Is
found_behind d r rs Is f = record {
  row = f.row;
  among = (suc f.among.0, (let e = f.among.1 in omega (arith, e)), f.among.2);
  is = f.is;
}

found_next : (d : Placement Module) (c : Counters) (x : Statement) (xs : List Statement) (Is : ℕ → Statement → Type 0)
    → FoundRow d (located (after c x.body) xs) Is → FoundRow d (located c (x ∷ xs)) Is
found_next d c x xs Is f =
    subst (λ (rs : List Located). FoundRow d rs Is) (sym (located_cons c x xs))
    (found_behind d (record { before = c; statement = x }) (located (after c x.body) xs) Is f)

found_here : (d : Placement Module) (c : Counters) (x : Statement) (xs : List Statement) (Is : ℕ → Statement → Type 0)
    → Is (address_in d (record { before = c; statement = x })) x → FoundRow d (located c (x ∷ xs)) Is
found_here d c x xs Is is =
    subst (λ (rs : List Located). FoundRow d rs Is) (sym (located_cons c x xs))
    (record { row = record { before = c; statement = x }; among = (0, omega arith, refl); is = is })

data_row : (Is : ℕ → Statement → Type 0) (Named : Names) (d : Placement Module) (k at done : ℕ) (c : Counters)
    (from : ℕ) (bytes : List ℕ) (own more : List Statement)
    → base_in d k ≡ at → from ≡ at + done → Stands c k at done → Data Named from bytes own
    → HasAt Is from (own ++ more)
    → ((e : Counters) → Stands e k at (done + length bytes) → HasAt Is (from + length bytes) more
    → FoundRow d (located e more) Is)
    → FoundRow d (located c (own ++ more)) Is
data_row Is Named d k at done c from _ _ more base begins s no_data has rest =
    let none : done ≡ done + 0 = omega arith in
    let same : from ≡ from + 0 = omega arith in
    rest c (subst (λ (m : ℕ). Stands c k at m) none s) (subst (λ (a : ℕ). HasAt Is a more) same has)
data_row Is Named d k at done c from bytes _ more base begins s
    (more_data {x = x} {xs = xs} given left bytes_are gives tail) has rest =
    let next : from + length given ≡ at + (done + length given) = omega arith in
    let size : length bytes ≡ length given + length left = ap length bytes_are ∙ length-append given left in
    let place : base_in d c.here + c.lengths c.here ≡ from =
    ap (λ (i : ℕ). base_in d i + c.lengths i) s.here ∙ (let e = s.has in omega (arith, e, base, begins)) in
    let there : address_in d (record { before = c; statement = x }) ≡ from =
    address_is Named d c from x given gives ∙ place in
    let behind : place_behind from x.body ≡ from + length given =
    place_given x.line from (length given) x.body gives.opens_none (gives.length_is 0) in
    let sum : done + length given + length left ≡ done + length bytes = omega (arith, size) in
    let end : from + length given + length left ≡ from + length bytes = omega (arith, size) in
    elim has [
      | inl is ↦ found_here d c x (xs ++ more) Is (subst (λ (a : ℕ). Is a x) (sym there) is)
      | inr later ↦
          found_next d c x (xs ++ more) Is
          (data_row Is Named d k at (done + length given) (after c x.body) (from + length given) left xs more base next
          (stands_behind Named c k at done from x given gives s) tail
          (subst (λ (a : ℕ). HasAt Is a (xs ++ more)) behind later)
          (λ e h has_more. rest e (subst (λ (i : ℕ). Stands e k at i) sum h)
          (subst (λ (a : ℕ). HasAt Is a more) end has_more)))
    ]

parts_row : (Is : ℕ → Statement → Type 0) (Named : Names) (d : Placement Module) (c : Counters) (n p : ℕ)
    (runs : List Placed) (xs : List Statement)
    → NoPlaceIs Is → Bases d n runs → Fresh c n → PartsData Named runs xs → HasAt Is p xs
    → FoundRow d (located c xs) Is
parts_row Is Named d c n p _ _ never bs f no_parts has = absurd has
parts_row Is Named d c n p _ xs never bs f (more_parts {run = run} {runs = runs} i own more are datas others) has =
    let opened : Counters = after c (body.At run.at) in
    let x : Statement = unlabelled i (body.At run.at) in
    subst (λ (ys : List Statement). FoundRow d (located c ys) Is) (sym are)
    (by (subst (HasAt Is p) are has)
    (λ h. found_next d c x (own ++ more) Is
    (data_row Is Named d n run.at 0 opened run.at run.bytes own more bs.0 (omega arith) (opens_part c n run.at f) datas h
    (λ e s more_has. parts_row Is Named d e (n + 1) (run.at + length run.bytes) runs more never bs.1
    (fresh_behind e n run.at (0 + length run.bytes) s) others more_has))))
  where
    by : (Is p (unlabelled i (body.At run.at)) ⊎ HasAt Is run.at (own ++ more))
        → (HasAt Is run.at (own ++ more)
        → FoundRow d (located c (unlabelled i (body.At run.at) ∷ (own ++ more))) Is)
        → FoundRow d (located c (unlabelled i (body.At run.at) ∷ (own ++ more))) Is
    by (inl place) later = absurd (never p i run.at place)
    by (inr h) later = later h

sets_row : (Is : ℕ → Statement → Type 0) (Named : Names) (d : Placement Module) (c : Counters)
    (sets xs : List Statement) → Sets Named sets → Empty c
    → ((e : Counters) → Empty e → FoundRow d (located e xs) Is) → FoundRow d (located c (sets ++ xs)) Is
sets_row Is Named d c _ xs no_set empty rest = rest c empty
sets_row Is Named d c _ xs (a_set {xs = sets} n name col value named others) empty rest =
    found_next d c (unlabelled n (body.Set name col value)) (sets ++ xs) Is
    (sets_row Is Named d (after c (body.Set name col value)) sets xs others (empty_behind c name col value empty) rest)

pub names_targets : (image : ProgramImage) (said : Said) (text : List ℕ) (unit : Source) → IsImage image
    → IsSource image said text → IsUnit text unit → NamesItsTargets image said unit
names_targets image said text unit is s is_unit =
    let m : IsMade image said text = source_made image said text is s in
    let same : unit_of (m.sets ++ m.statements) ≡ unit =
    (one_source_verdict text).one_value (unit_of (m.sets ++ m.statements)) unit m.is_unit is_unit in
    subst (NamesItsTargets image said) same (made m)
  where
    made : (m : IsMade image said text) → NamesItsTargets image said (unit_of (m.sets ++ m.statements))
    made m a i t code stands to =
        let xs : List Statement = m.sets ++ m.statements in
        let d : Placement Module = stood xs in
        let g : List Symbol = globals_in d ++ [] in
        let f : FoundRow d (lines_in (main xs)) (IsBranchTo a i t) =
        sets_row (IsBranchTo a i t) (named image said) d at_begin m.sets m.statements m.written.are_sets empty_first
        (λ e h. parts_row (IsBranchTo a i t) (named image said) d e 2 0 m.runs m.statements (no_branch a i t)
        (bases (named image said) image.start m.runs m.sets m.statements m.written) h.fresh m.written.datas
        (m.branches a code i t stands to)) in
        let w : WaitsFor i t f.row.statement = f.is.1 in
        record {
          placed = d;
          row = f.row;
          name = w.name;
          in_unit = (0, omega arith, refl);
          in_module = f.among;
          stands = f.is.0;
          waits = w.body_is;
          symbol = w.symbol;
          alone = w.alone;
          means =
              means_all (named image said) image.start m.runs m.sets m.statements g m.written w.name.symbol t
              (subst (λ (name : List ℕ). named image said name t) (sym w.symbol)
              (target_named image said t (a, code, (i, stands, to))));
        }
