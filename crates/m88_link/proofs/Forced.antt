-- The layout of objects with those of their relocations alone that can be carried out.
use Rattle.std.proofs.Common.{◌≡◌, ℕ, ◌<◌, Bool, true, false, List, [], ◌∷◌, ◌++◌, length, map, filter, refl, sym, ap, ◌∙◌}
use Rattle.std.proofs.Math.Path.{fun_ext}
use Rattle.std.proofs.lemmas.List.Elements.{All-filter}
use Rattle.std.specs.Prelude.{Option, None, Some, flat_map, slice_get, unwrap_or, if◌then◌else◌}
use Rattle.std.specs.List.{AllByRecursion}
use Rattle.std.specs.Option.{option_map_or, option_or}
use Rattle.m88_base.specs.Placed.{Placed}
use Rattle.m88_link.specs.declared.fault.LinkFault.{LinkFault}
use Rattle.m88_link.specs.declared.object.Object.{Object}
use Rattle.m88_link.specs.declared.object.Place.{Place}
use Rattle.m88_link.specs.declared.object.Place.TheVariants.{Text, DataSection, At}
use Rattle.m88_link.specs.declared.object.Reloc.{Reloc}
use Rattle.m88_link.specs.declared.object.Section.{Section}
use Rattle.m88_link.specs.declared.object.Symbol.{Symbol}
use Rattle.m88_link.specs.Bases.{Placement, base_at, base_of, section_size, stood}
use Rattle.m88_link.specs.Forced.{forced_layout, is_resolvable, resolvable}
use Rattle.m88_link.specs.Inside.Carried.{carried, unpatched}
use Rattle.m88_link.specs.Inside.Exports.{taken}
use Rattle.m88_link.specs.Inside.Resolved.{all_uses, carried_spots}
use Rattle.m88_link.specs.Layout.{Extent, Reference, extents_of, globals_of, layout_at, layout_of, reference, references_of, spots_of, value_of_name}
use Rattle.m88_link.specs.Refusal.{duplicate, first_fault, symbol_fault, too_far, too_far_in, undefined, undefined_in}
use Rattle.m88_link.specs.Relocated.{target_of}
use Rattle.m88_link.specs.Sound.{IsPatchIn, IsSound}
use Rattle.m88_link.specs.Symbols.{absolute, exported, symbol_meaning}
use Rattle.m88_link.proofs.Carried.{carried_is}
use Rattle.m88_link.proofs.Exported.{AreGlobal, both_none, count, fault_in, fault_is, finds_all, once_low}
use Rattle.m88_link.proofs.Parts.{first_fault-append}
use Rattle.m88_link.proofs.Resolved.{carried_resolvable, resolvable_is, use_is}

-- an object without some relocations stands where it does
place_same : (g : List Symbol) (p : Placement Object) (x : Place) → base_at (resolvable g p) x ≡ base_at p x
place_same g p Text = refl
place_same g p DataSection = refl
place_same g p (At a) = refl

pub base_same : (g : List Symbol) (p : Placement Object) → base_of (resolvable g p) ≡ base_of p
base_same g p = fun_ext (λ k. by (slice_get p.part.sections k))
  where
    by : (o : Option Section) → option_map_or (λ (x : Section). base_at (resolvable g p) x.place) o 0 ≡ option_map_or (λ (x : Section). base_at p x.place) o 0
    by None = refl
    by (Some x) = place_same g p x.place

globals_same : (g : List Symbol) (p : Placement Object) → globals_of (resolvable g p) ≡ globals_of p
globals_same g p = ap (λ (base : ℕ → ℕ). exported base p.part.symbols) (base_same g p)

extents_same : (g : List Symbol) (p : Placement Object) → extents_of (resolvable g p) ≡ extents_of p
extents_same g p =
    ap (λ (f : Section → Extent). map f p.part.sections)
    (fun_ext (λ x. ap (λ (n : ℕ). let e : Extent = record { at = n; len = length x.bytes; line = x.line } in e) (place_same g p x.place)))

pub value_same : (h g : List Symbol) (p : Placement Object) → value_of_name h (resolvable g p) ≡ value_of_name h p
value_same h g p =
    ap (λ (base : ℕ → ℕ). λ (name : List ℕ). unwrap_or (symbol_meaning h base p.part.symbols name) 0) (base_same g p)

unpatched_same : (g : List Symbol) (p : Placement Object) → unpatched (resolvable g p) ≡ unpatched p
unpatched_same g p =
    fun_ext (λ (x : Section). ap (λ (n : ℕ). let s : Placed = record { at = n; bytes = x.bytes } in s) (place_same g p x.place))

-- what is the same of each is the same of all
pub all_same : {A B C : Type 0} (f : B → List C) (h : A → List C) (change : A → B) → ((x : A) → f (change x) ≡ h x) → (xs : List A)
    → flat_map f (map change xs) ≡ flat_map h xs
all_same f h change one [] = refl
all_same f h change one (x ∷ xs) =
    ap (λ ys. ys ++ flat_map f (map change xs)) (one x) ∙ ap (λ ys. h x ++ ys) (all_same f h change one xs)

each_same : {A B : Type 0} (f h : A → List B) → ((x : A) → f x ≡ h x) → (xs : List A) → flat_map f xs ≡ flat_map h xs
each_same f h one [] = refl
each_same f h one (x ∷ xs) = ap (λ ys. ys ++ flat_map f xs) (one x) ∙ ap (λ ys. h x ++ ys) (each_same f h one xs)

pub forced_globals : (g : List Symbol) (ps : List (Placement Object)) → flat_map globals_of (map (resolvable g) ps) ≡ flat_map globals_of ps
forced_globals g ps = all_same globals_of globals_of (resolvable g) (globals_same g) ps

pub forced_extents : (g : List Symbol) (ps : List (Placement Object)) → flat_map extents_of (map (resolvable g) ps) ≡ flat_map extents_of ps
forced_extents g ps = all_same extents_of extents_of (resolvable g) (extents_same g) ps

-- it is as sound as it was
pub forced_sound : (g : List Symbol) (ps : List (Placement Object)) → AllByRecursion (λ p. IsSound p.part) ps
    → AllByRecursion (λ p. IsSound p.part) (map (resolvable g) ps)
forced_sound g [] h = tt
forced_sound g (p ∷ ps) h = (
  record {
    sections = h.0.sections;
    room = h.0.room;
    symbols = h.0.symbols;
    relocs = All-filter (is_resolvable g p) (IsPatchIn p.part.sections) p.part.relocs h.0.relocs;
    names = h.0.names;
    start = h.0.start;
  },
  forced_sound g ps h.1,
)

-- the global symbols of objects are global
exported_global : (base : ℕ → ℕ) (ss : List Symbol) → AreGlobal (exported base ss)
exported_global base [] = tt
exported_global base (s ∷ ss) = by s.global refl (exported_global base ss)
  where
    by : (t : Bool) → s.global ≡ t → AreGlobal (exported base ss)
        → AreGlobal (map (absolute base) (if t then s ∷ filter (λ x. x.global) ss else filter (λ x. x.global) ss))
    by true e rest = (e, rest)
    by false e rest = rest

joined_global : (xs ys : List Symbol) → AreGlobal xs → AreGlobal ys → AreGlobal (xs ++ ys)
joined_global [] ys h k = k
joined_global (x ∷ xs) ys h k = (h.0, joined_global xs ys h.1 k)

pub all_global : (ps : List (Placement Object)) → AreGlobal (flat_map globals_of ps)
all_global [] = tt
all_global (p ∷ ps) = joined_global (globals_of p) (flat_map globals_of ps) (exported_global (base_of p) p.part.symbols) (all_global ps)

module _ (ps : List (Placement Object)) where
  -- the sections by the table
  spots_one : (p : Placement Object) → spots_of (flat_map globals_of ps) (resolvable (flat_map globals_of ps) p) ≡ carried_spots (taken [] (flat_map globals_of ps)) p
  spots_one p =
      let g = flat_map globals_of ps in
      let q = resolvable g p in
      let rs = filter (is_resolvable g p) p.part.relocs in
      sym (carried_is g q)
      ∙ ap (λ (v : List ℕ → ℕ). carried (target_of v) rs (map (unpatched q) p.part.sections)) (value_same g g p)
      ∙ ap (λ (f : Section → Placed). carried (target_of (value_of_name g p)) rs (map f p.part.sections)) (unpatched_same g p)
      ∙ sym (carried_resolvable g (taken [] g) p p.part.relocs (map (unpatched p) p.part.sections) (finds_all g (all_global ps)))

  pub spots_are : flat_map (spots_of (flat_map globals_of ps)) (map (resolvable (flat_map globals_of ps)) ps)
      ≡ flat_map (carried_spots (taken [] (flat_map globals_of ps))) ps
  spots_are =
      let g = flat_map globals_of ps in
      all_same (spots_of g) (carried_spots (taken [] g)) (resolvable g) spots_one ps

  -- the faults by the table
  pub duplicate_is : fault_in [] (flat_map globals_of ps) ≡ duplicate (flat_map globals_of ps)
  duplicate_is = fault_is (flat_map globals_of ps) (all_global ps)

  uses_are : duplicate (flat_map globals_of ps) ≡ None
      → flat_map (all_uses (taken [] (flat_map globals_of ps))) ps ≡ flat_map (references_of (flat_map globals_of ps)) ps
  uses_are once =
      let g = flat_map globals_of ps in
      each_same (all_uses (taken [] g)) (references_of g)
      (λ p. ap (λ (f : Reloc → Reference). map f p.part.relocs) (fun_ext (λ r. use_is g (taken [] g) p r (finds_all g (all_global ps)) (λ name. once_low g name once))))
      ps

  pub faults_are :
      option_or (fault_in [] (flat_map globals_of ps))
      (option_or (undefined (flat_map (all_uses (taken [] (flat_map globals_of ps))) ps)) (too_far (flat_map (all_uses (taken [] (flat_map globals_of ps))) ps)))
      ≡ symbol_fault (layout_at ps)
  faults_are =
      let t = taken [] (flat_map globals_of ps) in
      ap (λ o. option_or o (option_or (undefined (flat_map (all_uses t) ps)) (too_far (flat_map (all_uses t) ps)))) duplicate_is
      ∙ by (duplicate (flat_map globals_of ps)) uses_are
    where
      by : (o : Option LinkFault)
          → (o ≡ None → flat_map (all_uses (taken [] (flat_map globals_of ps))) ps ≡ flat_map (references_of (flat_map globals_of ps)) ps)
          → option_or o (option_or (undefined (flat_map (all_uses (taken [] (flat_map globals_of ps))) ps)) (too_far (flat_map (all_uses (taken [] (flat_map globals_of ps))) ps)))
          ≡ option_or o (option_or (undefined (flat_map (references_of (flat_map globals_of ps)) ps)) (too_far (flat_map (references_of (flat_map globals_of ps)) ps)))
      by None same = ap (λ us. option_or (undefined us) (too_far us)) (same refl)
      by (Some x) same = refl

-- where there is no fault nothing is left out
all_kept : (keep : Reloc → Bool) (rs : List Reloc) → AllByRecursion (λ r. keep r ≡ true) rs → filter keep rs ≡ rs
all_kept keep [] h = refl
all_kept keep (r ∷ rs) h =
    ap (λ (t : Bool). if t then r ∷ filter keep rs else filter keep rs) h.0 ∙ ap (λ l. r ∷ l) (all_kept keep rs h.1)

each_kept : (g : List Symbol) (p : Placement Object) (rs : List Reloc) → ((name : List ℕ) → count name g < 2)
    → first_fault undefined_in (map (reference g (base_of p) p.part.symbols) rs) ≡ None
    → first_fault too_far_in (map (reference g (base_of p) p.part.symbols) rs) ≡ None → AllByRecursion (λ r. is_resolvable g p r ≡ true) rs
each_kept g p [] few u f = tt
each_kept g p (r ∷ rs) few u f =
    let x = reference g (base_of p) p.part.symbols r in
    let rest = map (reference g (base_of p) p.part.symbols) rs in
    let names = both_none (undefined_in x) (first_fault undefined_in rest) u in
    let distances = both_none (too_far_in x) (first_fault too_far_in rest) f in
    (resolvable_is g p r (few r.symbol) names.0 distances.0, each_kept g p rs few names.1 distances.1)

parts_none : (find : Reference → Option LinkFault) (xs ys : List Reference) → first_fault find (xs ++ ys) ≡ None
    → (first_fault find xs ≡ None) × (first_fault find ys ≡ None)
parts_none find xs ys h = both_none (first_fault find xs) (first_fault find ys) (sym (first_fault-append find xs ys) ∙ h)

whole : (g : List Symbol) (ps : List (Placement Object)) → ((name : List ℕ) → count name g < 2)
    → first_fault undefined_in (flat_map (references_of g) ps) ≡ None → first_fault too_far_in (flat_map (references_of g) ps) ≡ None
    → map (resolvable g) ps ≡ ps
whole g [] few u f = refl
whole g (p ∷ ps) few u f =
    let names = parts_none undefined_in (references_of g p) (flat_map (references_of g) ps) u in
    let distances = parts_none too_far_in (references_of g p) (flat_map (references_of g) ps) f in
    ap (λ (rs : List Reloc). record p { part = record p.part { relocs = rs } } ∷ map (resolvable g) ps)
    (all_kept (is_resolvable g p) p.part.relocs (each_kept g p p.part.relocs few names.0 distances.0))
    ∙ ap (λ l. p ∷ l) (whole g ps few names.1 distances.1)

pub forced_whole : (os : List Object) → symbol_fault (layout_of os) ≡ None → forced_layout os ≡ layout_of os
forced_whole os clean =
    let g = (layout_of os).globals in
    let uses = (layout_of os).references in
    let first = both_none (duplicate g) (option_or (undefined uses) (too_far uses)) clean in
    let rest = both_none (undefined uses) (too_far uses) first.1 in
    ap layout_at (whole g (stood section_size os) (λ name. once_low g name first.0) rest.0 rest.1)
