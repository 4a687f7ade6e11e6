-- What the steps of the linker say of the layout of the objects.
use Rattle.std.proofs.Common.{◌≡◌, ℕ, ◌<◌, ◌≤◌, Bool, List, [], map, true, false, refl, sym, ap, subst, ◌∙◌, arith, inl, inr, sum_by}
use Rattle.std.proofs.lemmas.Bool.Decides.{nat_tests}
use Rattle.std.proofs.lemmas.List.Elements.{recursion_from_All}
use Rattle.std.specs.Prelude.{◌==◌, All, flat_map, nat_lt, None, Option, Some}
use Rattle.std.specs.List.{AllByRecursion}
use Rattle.std.specs.Option.{option_map, option_map_or, option_or}
use Rattle.m88_base.specs.Image.{ProgramImage, byte_at, byte_count, most_bytes}
use Rattle.m88_base.specs.Placed.{byte_among, count_among}
use Rattle.m88_link.specs.declared.fault.LinkFault.{LinkFault}
use Rattle.m88_link.specs.declared.findings.Findings.{Findings}
use Rattle.m88_link.specs.declared.object.Object.{Object}
use Rattle.m88_link.specs.declared.object.Symbol.{Symbol}
use Rattle.m88_link.specs.Bases.{Placement, first_data, first_text, section_size, stood}
use Rattle.m88_link.specs.Faults.{memory_fault}
use Rattle.m88_link.specs.Forced.{IsAllocated, forced_layout, resolvable}
use Rattle.m88_link.specs.Inside.Carried.{AreAlone}
use Rattle.m88_link.specs.Inside.Exports.{with_global, taken}
use Rattle.m88_link.specs.Inside.Findings.{with_duplicate, with_uses}
use Rattle.m88_link.specs.Inside.Resolved.{all_uses, carried_spots}
use Rattle.m88_link.specs.Layout.{Extent, extents_of, globals_of, layout_at, layout_of, spots_of}
use Rattle.m88_link.specs.Linked.{IsLinked, start_address}
use Rattle.m88_link.specs.Refusal.{AreDisjoint, IsOverlap, IsRefused, is_too_large, symbol_fault, too_far, too_large, undefined}
use Rattle.m88_link.specs.Sizes.{total_size}
use Rattle.m88_link.specs.Sound.{IsSound, start_name}
use Rattle.m88_link.specs.Symbols.{symbol_of}
use Rattle.m88_link.proofs.Exported.{Finds, count, fault_in, finds_all}
use Rattle.m88_link.proofs.Extents.{extents_len, too_large_is}
use Rattle.m88_link.proofs.Forced.{all_global, faults_are, forced_extents, forced_globals, forced_sound, spots_are}
use Rattle.m88_link.proofs.OneRefusal.{not_disjoint}
use Rattle.m88_link.proofs.Parts.{some_first}
use Rattle.m88_link.proofs.Rooms.{all_sound, alone_is, bytes_are}

above : (m n : ℕ) → m < n → nat_lt m n ≡ true
above m n h = grind (arith, nat_tests)

within : (m n : ℕ) → n ≤ m → nat_lt m n ≡ false
within m n h = grind (arith, nat_tests)

module _ (os : List Object) (sound : All IsSound os) where
  each : AllByRecursion IsSound os
  each = recursion_from_All IsSound os sound

  -- more bytes than an image may have
  pub refused_too_large : most_bytes < total_size os → IsRefused (layout_of os) too_large
  refused_too_large h = inl (too_large_is os each ∙ above most_bytes (total_size os) h, refl)

  -- sections that overlap, or where they don't fit
  too_many : most_bytes < total_size os → IsAllocated (layout_of os) → ⊥
  too_many h room =
      let clash : true ≡ false = sym (too_large_is os each ∙ above most_bytes (total_size os) h) ∙ room.0 in
      absurd cc

  pub no_room : most_bytes < total_size os → (e : LinkFault) → IsAllocated (layout_of os) → e ≡ memory_fault
  no_room h e room = absurd (too_many h room)

  pub no_place : (e : LinkFault) → IsOverlap (flat_map extents_of (stood section_size os)) e → (f : LinkFault) → IsAllocated (layout_of os) → f ≡ memory_fault
  no_place e h f room = absurd (not_disjoint (flat_map extents_of (stood section_size os)) e h room.1)

  module _ (few : total_size os ≤ most_bytes) where
    fits : is_too_large (flat_map extents_of (stood section_size os)) ≡ false
    fits = too_large_is os each ∙ within most_bytes (total_size os) few

    pub refused_overlap : (e : LinkFault) → IsOverlap (flat_map extents_of (stood section_size os)) e → IsRefused (layout_of os) e
    refused_overlap e h = inr (inl (fits, h))

    module _ (alone : AreDisjoint (flat_map extents_of (stood section_size os))) where
      pub allocated : IsAllocated (layout_of os)
      allocated = (fits, alone)

      pub refused_named : (e : LinkFault) → symbol_fault (layout_of os) ≡ Some e → IsRefused (layout_of os) e
      refused_named e h = inr (inr (fits, alone, h))

      -- the sections with the relocations carried out that can be have no address twice
      pub spots_alone : AreAlone (flat_map (carried_spots (taken [] (flat_map globals_of (stood section_size os)))) (stood section_size os))
      spots_alone =
          let ps = stood section_size os in
          let g = flat_map globals_of ps in
          subst AreAlone (spots_are ps)
          (alone_is g (map (resolvable g) ps) (forced_sound g ps (all_sound first_text (first_data section_size os) os each))
          (subst AreDisjoint (sym (forced_extents g ps)) alone))

    -- and no more bytes than an image may have
    pub spots_few : count_among (flat_map (carried_spots (taken [] (flat_map globals_of (stood section_size os)))) (stood section_size os)) ≤ most_bytes
    spots_few =
        let ps = stood section_size os in
        let g = flat_map globals_of ps in
        omega (
          arith,
          few,
          ap count_among (spots_are ps),
          bytes_are g (map (resolvable g) ps) (forced_sound g ps (all_sound first_text (first_data section_size os) os each)),
          ap (sum_by (λ (e : Extent). e.len)) (forced_extents g ps),
          extents_len first_text (first_data section_size os) os,
        )

-- the first of what linking found is the first of the layout's faults that name a symbol
pub first_is : (ps qs rs : List (Placement Object)) (table : List Symbol) (goes_on : Bool) (none found all : Findings) (fault : Option LinkFault) → qs ≡ ps → rs ≡ ps
    → none ≡ record { goes_on = goes_on; duplicate = None; undefined = None; far = None } → table ≡ taken [] (flat_map globals_of qs)
    → found ≡ with_duplicate none (fault_in [] (flat_map globals_of qs))
    → all ≡ with_uses found (undefined (flat_map (all_uses table) rs)) (too_far (flat_map (all_uses table) rs))
    → fault ≡ option_or all.duplicate (option_or all.undefined all.far) → fault ≡ symbol_fault (layout_at ps)
first_is ps qs rs table goes_on none found all fault q r n t f a told =
    told
    ∙ ap (λ (x : Findings). option_or x.duplicate (option_or x.undefined x.far))
    (a ∙ ap (λ (x : Findings). with_uses x (undefined (flat_map (all_uses table) rs)) (too_far (flat_map (all_uses table) rs)))
    (f ∙ ap (λ (x : Findings). with_duplicate x (fault_in [] (flat_map globals_of qs))) n))
    ∙ ap (λ (l : List Symbol). option_or (fault_in [] (flat_map globals_of qs)) (option_or (undefined (flat_map (all_uses l) rs)) (too_far (flat_map (all_uses l) rs)))) t
    ∙ ap (λ (l : List (Placement Object)).
    option_or (fault_in [] (flat_map globals_of l))
    (option_or (undefined (flat_map (all_uses (taken [] (flat_map globals_of l))) rs)) (too_far (flat_map (all_uses (taken [] (flat_map globals_of l))) rs)))) q
    ∙ ap (λ (l : List (Placement Object)).
    option_or (fault_in [] (flat_map globals_of ps))
    (option_or (undefined (flat_map (all_uses (taken [] (flat_map globals_of ps))) l)) (too_far (flat_map (all_uses (taken [] (flat_map globals_of ps))) l)))) r
    ∙ faults_are ps

-- a fault that linking ends at is the first
pub duplicate_first : (ps : List (Placement Object)) (e : LinkFault) → fault_in [] (flat_map globals_of ps) ≡ Some e → symbol_fault (layout_at ps) ≡ Some e
duplicate_first ps e h =
    let uses = flat_map (all_uses (taken [] (flat_map globals_of ps))) ps in
    sym (faults_are ps) ∙ some_first (fault_in [] (flat_map globals_of ps)) (option_or (undefined uses) (too_far uses)) e h

pub undefined_first : (ps : List (Placement Object)) (e : LinkFault) → fault_in [] (flat_map globals_of ps) ≡ None
    → undefined (flat_map (all_uses (taken [] (flat_map globals_of ps))) ps) ≡ Some e → symbol_fault (layout_at ps) ≡ Some e
undefined_first ps e once h =
    let uses = flat_map (all_uses (taken [] (flat_map globals_of ps))) ps in
    sym (faults_are ps) ∙ ap (λ o. option_or o (option_or (undefined uses) (too_far uses))) once ∙ some_first (undefined uses) (too_far uses) e h

-- the address at which the program starts is found in the table
start_is : (all table : List Symbol) → Finds all table → start_address table ≡ start_address all
start_is all table h = ap (λ (o : Option Symbol). option_map_or (λ g. g.value) o first_text) (h start_name) ∙ by (symbol_of all start_name)
  where
    by : (o : Option Symbol) → option_map_or (λ (g : Symbol). g.value) (option_map (with_global (count start_name all == 1)) o) first_text ≡ option_map_or (λ (g : Symbol). g.value) o first_text
    by None = refl
    by (Some x) = refl

-- an image of these sections is that of the forced layout
pub linked_is : (os : List Object) (image : ProgramImage)
    → ((a : ℕ) → byte_at image a ≡ byte_among (flat_map (carried_spots (taken [] (flat_map globals_of (stood section_size os)))) (stood section_size os)) a)
    → byte_count image ≡ count_among (flat_map (carried_spots (taken [] (flat_map globals_of (stood section_size os)))) (stood section_size os))
    → image.start ≡ start_address (taken [] (flat_map globals_of (stood section_size os))) → IsLinked (forced_layout os) image
linked_is os image bytes count_of start =
    let ps = stood section_size os in
    let g = flat_map globals_of ps in
    let own : flat_map globals_of (map (resolvable g) ps) ≡ g = forced_globals g ps in
    let spots : (forced_layout os).spots ≡ flat_map (carried_spots (taken [] g)) ps =
    ap (λ (l : List Symbol). flat_map (spots_of l) (map (resolvable g) ps)) own ∙ spots_are ps in
    record {
      bytes = λ a. bytes a ∙ ap (λ l. byte_among l a) (sym spots);
      count = count_of ∙ ap count_among (sym spots);
      start = start ∙ start_is g (taken [] g) (finds_all g (all_global ps)) ∙ ap start_address (sym own);
    }
