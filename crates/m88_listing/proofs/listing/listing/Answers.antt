-- The modules fit, and the parts of the text are the listing.
use Rattle.std.proofs.Common.{◌≡◌, ◌≤◌, ◌∙◌, ◌++◌, List, ℕ, ap, sym, subst, flat_map}
use Rattle.std.specs.List.{All}
use Rattle.std.specs.Prelude.{is_none, is_some}
use Rattle.std.proofs.lemmas.List.Elements.{All-from_recursion}
use Rattle.m88_base.specs.Image.{byte_at, most_bytes}
use Rattle.m88_base.specs.Lines.{line_end, lines_of, text_of_lines}
use Rattle.m88_parse.specs.declared.unit.Module.{Module}
use Rattle.m88_link.specs.Bases.{Placement, section_size, stood}
use Rattle.m88_link.specs.Sizes.{total_size}
use Rattle.m88_link.specs.Sound.{IsSound}
use Rattle.m88_link.specs.declared.object.Object.{Object}
use Rattle.m88_asm.specs.Units.{based}
use Rattle.m88_asm.specs.Objects.{objects_of}
use Rattle.m88_asm.proofs.Laws.{modules_sound}
use Rattle.m88_listing.specs.Entries.{AreInOrder, entries_in, labels_of, numbers_of}
use Rattle.m88_listing.specs.Sums.{sum_line}
use Rattle.m88_listing.specs.Inside.Slots.{Climb, IsSlot, ModuleFits, slots_of, walked}
use Rattle.m88_listing.specs.declared.entries.Entry.{Entry}
use Rattle.m88_listing.specs.declared.slots.Slot.{Slot}
use Rattle.m88_listing.proofs.Climbing.{climbs, unit_climbs}
use Rattle.m88_listing.proofs.Fitting.{accepted_laid, unit_fits, unit_slots}
use Rattle.m88_listing.proofs.Whole.{listing_whole, size_fits}
use Rattle.m88_listing.proofs.listing.listing.Goals as goal

pub stand-requires-clause-size : goal.stand-requires-clause-size
stand-requires-clause-size c =
    subst (λ (os : List Object). total_size os ≤ most_bytes) (sym c.requires.accepted.are_objects)
    (size_fits c.args.unit.now c.requires.accepted.accepted)

pub stand-requires-clause-sound : goal.stand-requires-clause-sound
stand-requires-clause-sound c =
    let u = c.args.unit.now in
    subst (λ (os : List Object). All IsSound os) (sym c.requires.accepted.are_objects)
    (All-from_recursion IsSound (objects_of u) (modules_sound u.modules c.requires.accepted.accepted.assembled))

pub push_sums-requires : goal.push_sums-requires
push_sums-requires c =
    subst (λ (os : List Object). total_size os ≤ most_bytes) (sym c.requires.accepted.are_objects)
    (size_fits c.args.unit.now c.requires.accepted.accepted)

pub standings-requires : goal.standings-requires
standings-requires c =
    c.as_slice.ensures.value ∙ c.in_ok-placements.ensures ∙ ap (stood section_size) c.requires.accepted.are_objects

pub slots-requires : goal.slots-requires
slots-requires c =
    let u = c.args.unit.now in
    subst (λ (bs : List (Placement Module)). All ModuleFits bs) (sym (c.as_slice-2.ensures.value ∙ c.in_ok-standings.ensures))
    (All-from_recursion ModuleFits (based u) (unit_fits u c.args.image.now (accepted_laid u c.args.image.now c.requires.accepted.formed c.requires.accepted.accepted c.requires.accepted.is_image)))

pub push_source-requires-clause-each : goal.push_source-requires-clause-each
push_source-requires-clause-each c =
    let u = c.args.unit.now in
    let found = byte_at c.args.image.now in
    let kept : c.as_slice-5.result.now ≡ slots_of (based u) =
    c.as_slice-5.ensures.value ∙ c.in_ok-slots.ensures ∙ ap slots_of (c.as_slice-2.ensures.value ∙ c.in_ok-standings.ensures) in
    subst (λ (ss : List Slot). All (IsSlot found) ss) (sym kept)
    (All-from_recursion (IsSlot found) (slots_of (based u))
    (unit_slots u c.args.image.now (accepted_laid u c.args.image.now c.requires.accepted.formed c.requires.accepted.accepted c.requires.accepted.is_image)))

pub push_source-requires-clause-climb : goal.push_source-requires-clause-climb
push_source-requires-clause-climb c =
    let u = c.args.unit.now in
    let kept : c.as_slice-5.result.now ≡ slots_of (based u) =
    c.as_slice-5.ensures.value ∙ c.in_ok-slots.ensures ∙ ap slots_of (c.as_slice-2.ensures.value ∙ c.in_ok-standings.ensures) in
    subst (λ (ss : List Slot). Climb 1 ss) (sym kept) (climbs 1 _ (slots_of (based u)) (unit_climbs c.args.source.now u c.requires.accepted.is_unit))

pub returns : goal.returns
returns c =
    let u = c.args.unit.now in
    let source = c.args.source.now in
    let found = byte_at c.args.image.now in
    let stand : c.in_ok-standings.standings.items ≡ based u = c.in_ok-standings.ensures in
    let kept : c.as_slice-5.result.now ≡ slots_of (based u) =
    c.as_slice-5.ensures.value ∙ c.in_ok-slots.ensures ∙ ap slots_of (c.as_slice-2.ensures.value ∙ stand) in
    let named : c.as_slice-7.result.now ≡ numbers_of u =
    c.as_slice-7.ensures.value ∙ c.in_ok-numbers.ensures
    ∙ ap (flat_map (entries_in (λ s. is_none s.section))) (c.as_slice-4.ensures.value ∙ stand) in
    let ordered : AreInOrder (labels_of u) c.as_slice-6.result.now =
    subst (λ (es : List Entry). AreInOrder (labels_of u) es) (sym c.as_slice-6.ensures.value)
    (subst (λ (bs : List (Placement Module)). AreInOrder (flat_map (entries_in (λ s. is_some s.section)) bs) c.in_ok-labels.labels.items)
    (c.as_slice-3.ensures.value ∙ stand) c.in_ok-labels.ensures) in
    record {
      accepted = record { unit = u; is_unit = c.requires.accepted.is_unit; is_accepted = c.requires.accepted.accepted };
      labels = c.as_slice-6.result.now;
      in_order = ordered;
      is_text =
          listing_whole source c.push_source.new.text.items c.push_entries.new.text.items c.push_entries-2.new.text.items c.push_sums.new.text.items u c.args.image.now
          c.as_slice-5.result.now c.as_slice-6.result.now c.as_slice-7.result.now c.args.objects.now c.requires.accepted.is_unit c.requires.accepted.accepted c.requires.accepted.is_image kept named
          (c.in_ok-push_source.ensures
          ∙ ap (λ (t : List ℕ). t ++ text_of_lines (walked found 1 (lines_of source) c.as_slice-5.result.now)) c.in_ok-text.ensures.items)
          c.in_ok-push_entries.ensures c.in_ok-push_entries-2.ensures c.requires.accepted.are_objects
          (c.in_ok-push_sums.ensures ∙ ap (λ (n : ℕ). c.push_entries-2.new.text.items ++ (line_end ++ (sum_line c.args.objects.now n ++ line_end))) c.start.ensures);
    }
