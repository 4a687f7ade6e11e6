-- The rows are those of the unit without what can't be carried out.
use Rattle.std.proofs.Common.{◌≡◌, ◌≤◌, ◌∙◌, List, ap, arith, sym, subst, map}
use Rattle.std.specs.Prelude.{string_bytes}
use Rattle.std.proofs.lemmas.Grind.{common_steps}
use Rattle.m88_link.specs.Reasons.{link_reason}
use Rattle.std.specs.List.{All}
use Rattle.std.proofs.lemmas.List.Elements.{All-from_recursion}
use Rattle.m88_base.specs.Image.{byte_at, most_bytes}
use Rattle.m88_parse.specs.declared.unit.Module.{Module}
use Rattle.m88_link.specs.Bases.{Placement, section_size, stood}
use Rattle.m88_link.specs.Forced.{forced_layout}
use Rattle.m88_link.specs.Linked.{IsLinked}
use Rattle.m88_link.specs.Sizes.{total_size}
use Rattle.m88_link.specs.Sound.{IsSound}
use Rattle.m88_link.specs.declared.object.Object.{Object}
use Rattle.m88_asm.proofs.Laws.{modules_sound}
use Rattle.m88_asm.specs.Objects.{objects_of}
use Rattle.m88_asm.specs.Units.{based, unit_layout}
use Rattle.m88_listing.specs.Inside.Slots.{Climb, IsSlot, ModuleFits, kept_row, slots_of}
use Rattle.m88_listing.specs.Settled.{settled_unit, unlinked_rows}
use Rattle.m88_listing.specs.declared.slots.Slot.{Slot}
use Rattle.m88_listing.proofs.Climbing.{climbs, unit_climbs}
use Rattle.m88_listing.proofs.Fitting.{IsLaid}
use Rattle.m88_listing.proofs.Refitting.{named_room, named_rows, settled_fits, settled_laid, settled_rows, settled_slots, unlinked_with}
use Rattle.m88_listing.proofs.Whole.{size_low}
use Rattle.m88_listing.proofs.listing.unnamed.Goals.{After-as_slice-3, After-stand}
use Rattle.m88_listing.proofs.listing.unnamed.Goals as goal

pub stand-requires-clause-size : goal.stand-requires-clause-size
stand-requires-clause-size c =
    let u = c.args.unit.now in
    let h = c.requires.unlinked in
    subst (λ (os : List Object). total_size os ≤ most_bytes) (sym h.are_objects)
    (size_low u h.assembled (named_room (unit_layout u) c.args.fault h.is_refused c.requires.kind).0)

pub stand-requires-clause-sound : goal.stand-requires-clause-sound
stand-requires-clause-sound c =
    let u = c.args.unit.now in
    subst (λ (os : List Object). All IsSound os) (sym c.requires.unlinked.are_objects)
    (All-from_recursion IsSound (objects_of u) (modules_sound u.modules c.requires.unlinked.assembled))

pub standings-requires : goal.standings-requires
standings-requires c =
    c.as_slice.ensures.value ∙ c.in_ok-placements.ensures ∙ ap (stood section_size) c.requires.unlinked.are_objects

laid : (c : After-stand) → IsLaid (settled_unit c.args.unit.now) c.args.image.now
laid c =
    let u = c.args.unit.now in
    let h = c.requires.unlinked in
    settled_laid u c.args.image.now h.formed h.assembled (named_room (unit_layout u) c.args.fault h.is_refused c.requires.kind).1 c.requires.image
    (subst (λ (os : List Object). IsLinked (forced_layout os) c.args.image.now) h.are_objects c.requires.linked)

pub slots-requires : goal.slots-requires
slots-requires c =
    let u = c.args.unit.now in
    let k = (goal.at.slots-requires c).After-stand in
    subst (λ (bs : List (Placement Module)). All ModuleFits bs) (sym (c.as_slice-2.ensures.value ∙ c.in_ok-standings.ensures))
    (All-from_recursion ModuleFits (based u) (settled_fits u c.args.image.now c.requires.unlinked.formed (laid k)))

kept : (c : After-as_slice-3) → c.as_slice-3.result.now ≡ slots_of (based c.args.unit.now)
kept c = c.as_slice-3.ensures.value ∙ c.in_ok-slots.ensures ∙ ap slots_of (c.as_slice-2.ensures.value ∙ c.in_ok-standings.ensures)

pub refuse-requires-clause-each : goal.refuse-requires-clause-each
refuse-requires-clause-each c =
    let u = c.args.unit.now in
    let P = IsSlot (byte_at c.args.image.now) in
    let k = (goal.at.refuse-requires-clause-each c).After-stand in
    subst (λ (ss : List Slot). All P ss) (sym (kept (goal.at.refuse-requires-clause-each c).After-as_slice-3))
    (All-from_recursion P (slots_of (based u)) (settled_slots u c.args.image.now (laid k)))

pub refuse-requires-clause-climb : goal.refuse-requires-clause-climb
refuse-requires-clause-climb c =
    let u = c.args.unit.now in
    subst (λ (ss : List Slot). Climb 1 ss) (sym (kept (goal.at.refuse-requires-clause-climb c).After-as_slice-3))
    (climbs 1 _ (slots_of (based u)) (unit_climbs c.args.source.now u c.requires.unlinked.is_unit))

pub returns : goal.returns
returns c =
    let u = c.args.unit.now in
    let h = c.requires.unlinked in
    let image = c.args.image.now in
    let rows = map (kept_row (byte_at image)) in
    let said : string_bytes c.in_ok-reason.reason ≡ link_reason c.args.fault.kind = grind (arith, common_steps) in
    let own : rows c.as_slice-3.result.now ≡ unlinked_rows u c.args.fault.kind =
    ap rows (kept (goal.at.returns c).After-as_slice-3) ∙ sym (settled_rows u image (laid (goal.at.returns c).After-stand))
    ∙ named_rows u c.args.fault.kind c.requires.kind in
    c.refuse.ensures (unlinked_with c.args.source.now (string_bytes c.in_ok-reason.reason) u c.args.fault (rows c.as_slice-3.result.now) h.is_unit h.assembled h.is_refused said own)
