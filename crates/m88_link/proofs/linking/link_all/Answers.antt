-- Each fault is the layout's first, and where linking goes on the sections are apart, few enough, and the forced layout's.
use Rattle.std.proofs.Common.{◌≡◌, ◌<◌, ◌≤◌, ◌∙◌, [], false, true, refl, sym, ap, subst, inl, inr, arith}
use Rattle.std.proofs.lemmas.Bool.Decides.{leb_tells}
use Rattle.std.proofs.lemmas.Grind.{common_steps}
use Rattle.std.proofs.lemmas.Result.{err_from_is_err_and}
use Rattle.std.specs.Prelude.{flat_map, List, None, Some}
use Rattle.m88_base.specs.Image.{most_bytes}
use Rattle.m88_base.specs.Placed.{byte_among, count_among}
use Rattle.m88_link.specs.Bases.{section_size, stood}
use Rattle.m88_link.specs.Inside.Carried.{AreAlone}
use Rattle.m88_link.specs.Inside.Exports.{taken}
use Rattle.m88_link.specs.Inside.Resolved.{all_uses, carried_spots}
use Rattle.m88_link.specs.Layout.{extents_of, globals_of, layout_of}
use Rattle.m88_link.specs.Linked.{start_address}
use Rattle.m88_link.specs.Refusal.{AreDisjoint, IsOverlap, symbol_fault, undefined}
use Rattle.m88_link.specs.Sizes.{total_size}
use Rattle.m88_link.specs.declared.findings.Findings.{Findings}
use Rattle.m88_link.specs.declared.object.Symbol.{Symbol}
use Rattle.m88_link.proofs.Exported.{fault_in}
use Rattle.m88_link.proofs.Linkage.{allocated, duplicate_first, first_is, linked_is, no_place, no_room, refused_named, refused_overlap, refused_too_large, spots_alone, spots_few, undefined_first}
use Rattle.m88_link.proofs.linking.link_all.Goals.{After-first-fault, In_ok-check_overlap}
use Rattle.m88_link.proofs.linking.link_all.Goals as goal

pub returns-then-not-fit-clause-linked : goal.returns-then-not-fit-clause-linked
returns-then-not-fit-clause-linked c = λ goes room.
    let os = c.args.objects.now in
    let many : most_bytes < total_size os = elim (leb_tells (total_size os) most_bytes) [
      | inl few ↦ let e : false ≡ true = c.if-not-fit.ensures.1 few.1 in absurd (cc)
      | inr many ↦ many.1
    ] in
    no_room os c.requires many _ room

pub returns-then-not-fit-clause-err : goal.returns-then-not-fit-clause-err
returns-then-not-fit-clause-err c =
    let os = c.args.objects.now in
    let many : most_bytes < total_size os = elim (leb_tells (total_size os) most_bytes) [
      | inl few ↦ let e : false ≡ true = c.if-not-fit.ensures.1 few.1 in absurd (cc)
      | inr many ↦ many.1
    ] in
    inr (refused_too_large os c.requires many)

pub returns-in_err-check_overlap-clause-linked : goal.returns-in_err-check_overlap-clause-linked
returns-in_err-check_overlap-clause-linked c = λ goes room.
    let os = c.args.objects.now in
    let fault = c.in_err-check_overlap.field-0.0 in
    let stand = c.deref.ensures.value ∙ c.in_ok-placements.ensures in
    let r = c.from_residual-in_err-check_overlap in
    let p = err_from_is_err_and r.result r.ensures.1 in
    rw (p.1, p.2) (elim c.in_err-check_overlap.ensures.err [
      | inl memory ↦ memory
      | inr found ↦ no_place os c.requires fault (subst (λ l. IsOverlap (flat_map extents_of l) fault) stand found) fault room
    ])

pub returns-in_err-check_overlap-clause-err : goal.returns-in_err-check_overlap-clause-err
returns-in_err-check_overlap-clause-err c =
    let os = c.args.objects.now in
    let few : total_size os ≤ most_bytes = c.if-not-fit.ensures.0 refl in
    let fault = c.in_err-check_overlap.field-0.0 in
    let stand = c.deref.ensures.value ∙ c.in_ok-placements.ensures in
    let r = c.from_residual-in_err-check_overlap in
    let p = err_from_is_err_and r.result r.ensures.1 in
    rw (p.1, p.2) (elim c.in_err-check_overlap.ensures.err [
      | inl memory ↦ inl memory
      | inr found ↦ inr (refused_overlap os c.requires few fault (subst (λ l. IsOverlap (flat_map extents_of l) fault) stand found))
    ])

-- where the sections are apart
apart : (c : In_ok-check_overlap) → AreDisjoint (flat_map extents_of (stood section_size c.args.objects.now))
apart c = subst (λ l. AreDisjoint (flat_map extents_of l)) (c.deref.ensures.value ∙ c.in_ok-placements.ensures) c.in_ok-check_overlap.ensures.ok

pub returns-in_err-globals-clause-err : goal.returns-in_err-globals-clause-err
returns-in_err-globals-clause-err c =
    let os = c.args.objects.now in
    let few : total_size os ≤ most_bytes = c.if-not-fit.ensures.0 refl in
    let fault = c.in_err-globals.field-0.0 in
    let stand = c.deref-2.ensures.value ∙ c.in_ok-placements.ensures in
    let r = c.from_residual-in_err-globals in
    let p = err_from_is_err_and r.result r.ensures.1 in
    rw (p.1, p.2) (elim c.in_err-globals.ensures.ends [
      | inl memory ↦ inl memory
      | inr found ↦ inr (refused_named os c.requires few (apart (goal.at.returns-in_err-globals-clause-err c).In_ok-check_overlap) fault
          (duplicate_first (stood section_size os) fault (subst (λ l. fault_in [] (flat_map globals_of l) ≡ Some fault) stand found.1)))
    ])

pub returns-in_err-spots-clause-err : goal.returns-in_err-spots-clause-err
returns-in_err-spots-clause-err c =
    let os = c.args.objects.now in
    let ps = stood section_size os in
    let few : total_size os ≤ most_bytes = c.if-not-fit.ensures.0 refl in
    let fault = c.in_err-spots.field-0.0 in
    let stand = c.deref-2.ensures.value ∙ c.in_ok-placements.ensures in
    let table = c.in_ok-globals.ensures.table ∙ ap (λ l. taken [] (flat_map globals_of l)) stand in
    let r = c.from_residual-in_err-spots in
    let p = err_from_is_err_and r.result r.ensures.1 in
    rw (p.1, p.2) (elim c.in_err-spots.ensures.ends [
      | inl memory ↦ inl memory
      | inr found ↦
          let mode = sym (ap (λ (f : Findings). f.goes_on) c.in_ok-globals.ensures.ends.0) ∙ found.0 in
          inr (refused_named os c.requires few (apart (goal.at.returns-in_err-spots-clause-err c).In_ok-check_overlap) fault
          (undefined_first ps fault
          (subst (λ l. fault_in [] (flat_map globals_of l) ≡ None) stand (c.in_ok-globals.ensures.ends.1 mode))
          (subst (λ (t : List Symbol). undefined (flat_map (all_uses t) ps) ≡ Some fault) table
          (subst (λ l. undefined (flat_map (all_uses c.in_ok-globals.globals) l) ≡ Some fault) (c.deref-3.ensures.value ∙ c.in_ok-placements.ensures) found.1))))
    ])

-- what was found is the first fault that names a symbol
first : (c : After-first-fault) → c.first-fault.result ≡ symbol_fault (layout_of c.args.objects.now)
first c =
    first_is (stood section_size c.args.objects.now) c.deref-2.result.now c.deref-3.result.now c.in_ok-globals.globals c.args.goes_on c.new-findings.result
    c.globals.new.findings c.spots.new.findings c.first-fault.result (c.deref-2.ensures.value ∙ c.in_ok-placements.ensures)
    (c.deref-3.ensures.value ∙ c.in_ok-placements.ensures) c.new-findings.ensures c.in_ok-globals.ensures.table c.in_ok-globals.ensures.ends.0
    c.in_ok-spots.ensures.ends.0 c.first-fault.ensures

pub returns-clause-err : goal.returns-clause-err
returns-clause-err c =
    let k = goal.at.returns-clause-err c in
    let os = c.args.objects.now in
    let few : total_size os ≤ most_bytes = c.if-not-fit.ensures.0 refl in
    let is : c.first-fault.result ≡ Some c.in-Some.fault = grind (arith, common_steps) in
    inr (refused_named os c.requires few (apart k.In_ok-check_overlap) c.in-Some.fault (sym (first k.After-first-fault) ∙ is))

-- the sections are those of the objects where they stand
sections : (c : After-first-fault)
    → c.in_ok-spots.spots.items
    ≡ flat_map (carried_spots (taken [] (flat_map globals_of (stood section_size c.args.objects.now)))) (stood section_size c.args.objects.now)
sections c =
    let ps = stood section_size c.args.objects.now in
    let table = c.in_ok-globals.ensures.table ∙ ap (λ l. taken [] (flat_map globals_of l)) (c.deref-2.ensures.value ∙ c.in_ok-placements.ensures) in
    c.in_ok-spots.ensures.spots
    ∙ ap (flat_map (carried_spots c.in_ok-globals.globals)) (c.deref-3.ensures.value ∙ c.in_ok-placements.ensures)
    ∙ ap (λ (t : List Symbol). flat_map (carried_spots t) ps) table

pub image_of-requires-clause-alone : goal.image_of-requires-clause-alone
image_of-requires-clause-alone c =
    let k = goal.at.image_of-requires-clause-alone c in
    subst AreAlone (sym (sections k.After-first-fault)) (spots_alone c.args.objects.now c.requires (c.if-not-fit.ensures.0 refl) (apart k.In_ok-check_overlap))

pub image_of-requires-clause-fit : goal.image_of-requires-clause-fit
image_of-requires-clause-fit c =
    let k = goal.at.image_of-requires-clause-fit c in
    subst (λ l. count_among l ≤ most_bytes) (sym (sections k.After-first-fault)) (spots_few c.args.objects.now c.requires (c.if-not-fit.ensures.0 refl))

pub returns-2-clause-allocated : goal.returns-2-clause-allocated
returns-2-clause-allocated c =
    allocated c.args.objects.now c.requires (c.if-not-fit.ensures.0 refl) (apart (goal.at.returns-2-clause-allocated c).In_ok-check_overlap)

pub returns-2-clause-image : goal.returns-2-clause-image
returns-2-clause-image c =
    let k = goal.at.returns-2-clause-image c in
    let table = c.in_ok-globals.ensures.table ∙ ap (λ l. taken [] (flat_map globals_of l)) (c.deref-2.ensures.value ∙ c.in_ok-placements.ensures) in
    linked_is c.args.objects.now c.set_start.new.self
    (λ a. c.set_start.ensures.bytes a ∙ c.in_ok-image.ensures.bytes a ∙ ap (λ l. byte_among l a) (sections k.After-first-fault))
    (c.set_start.ensures.len ∙ c.in_ok-image.ensures.count ∙ ap count_among (sections k.After-first-fault))
    (c.set_start.ensures.start ∙ c.start.ensures ∙ ap start_address table)

pub returns-2-clause-fault : goal.returns-2-clause-fault
returns-2-clause-fault c = first (goal.at.returns-2-clause-fault c).After-first-fault
