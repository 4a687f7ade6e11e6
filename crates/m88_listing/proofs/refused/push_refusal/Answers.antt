-- The parts of the text one after the other.
use Rattle.std.proofs.Common.{◌∙◌, ◌+◌, ◌++◌, List, ℕ, ap, arith, map, subst, sym}
use Rattle.std.specs.List.{All}
use Rattle.std.proofs.lemmas.List.Elements.{All-from_recursion, recursion_from_All}
use Rattle.m88_base.specs.Image.{byte_at}
use Rattle.m88_listing.specs.Inside.Slots.{Climb, IsSlot, kept_row, slots_behind}
use Rattle.m88_listing.specs.Refused.{refused_text}
use Rattle.m88_listing.specs.declared.slots.Slot.{Slot}
use Rattle.m88_listing.proofs.Refusing.{refused_whole}
use Rattle.m88_listing.proofs.Walking.{climb_behind, climb_top, each_behind, lower_climb}
use Rattle.m88_listing.proofs.refused.push_refusal.Goals.{After-max}
use Rattle.m88_listing.proofs.refused.push_refusal.Goals as goal

own_climbs : (c : After-max) → Climb c.max.result c.slots_behind-own.result.now
own_climbs c =
    subst (λ (ss : List Slot). Climb c.max.result ss) (sym c.slots_behind-own.ensures)
    (climb_top c.args.slots.now c.from-line.result c.max.result c.requires.climb (λ low. omega (arith, low, c.max.ensures)) (λ high. omega (arith, high, c.max.ensures)))

pub push_part-requires-2-clause-each : goal.push_part-requires-2-clause-each
push_part-requires-2-clause-each c =
    let P = IsSlot (byte_at c.args.image.now) in
    let ss = slots_behind c.from-line.result c.args.slots.now in
    subst (λ (xs : List Slot). All P xs) (sym c.slots_behind-own.ensures)
    (All-from_recursion P ss (each_behind P c.from-line.result c.args.slots.now (recursion_from_All P c.args.slots.now c.requires.each)))

pub push_part-requires-2-clause-climb : goal.push_part-requires-2-clause-climb
push_part-requires-2-clause-climb c =
    lower_climb _ c.max.result c.slots_behind-own.result.now c.in_ok-here.ensures.within
    (own_climbs (goal.at.push_part-requires-2-clause-climb c).After-max)

pub push_part-requires-3-clause-each : goal.push_part-requires-3-clause-each
push_part-requires-3-clause-each c =
    let P = IsSlot (byte_at c.args.image.now) in
    let ss = slots_behind (c.from-line.result + 1) c.args.slots.now in
    subst (λ (xs : List Slot). All P xs) (sym c.slots_behind-after.ensures)
    (All-from_recursion P ss (each_behind P (c.from-line.result + 1) c.args.slots.now (recursion_from_All P c.args.slots.now c.requires.each)))

pub push_part-requires-3-clause-climb : goal.push_part-requires-3-clause-climb
push_part-requires-3-clause-climb c =
    lower_climb _ (c.from-line.result + 1) c.slots_behind-after.result.now c.in_ok-rest.ensures.within
    (subst (λ (ss : List Slot). Climb (c.from-line.result + 1) ss) (sym c.slots_behind-after.ensures)
    (climb_behind (c.from-line.result + 1) 1 c.args.slots.now c.requires.climb).1)

pub returns : goal.returns
returns c =
    let k = (goal.at.returns c).After-max in
    let rows = map (kept_row (byte_at c.args.image.now)) c.args.slots.now in
    refused_whole (byte_at c.args.image.now) c.args.text.now.items c.args.source.now c.in_ok-here.here.now c.in_ok-rest.rest.now c.in_ok-push_part.field-0.now
    c.push_part.new.text.items c.push_part-2.new.text.items c.push_mark.new.text.items c.push_refused.new.text.items c.push_part-3.new.text.items
    c.line_here.result.now c.args.reason.now c.args.slots.now c.slots_behind-own.result.now c.slots_behind-after.result.now c.from-line.result c.max.result
    c.args.column c.new-columns.result _ _ _ _ c.requires.climb (omega (arith, c.requires.short)) c.new-columns.ensures (omega (arith, c.max.ensures))
    (omega (arith, c.max.ensures)) (omega (arith, c.max.ensures)) (omega (arith, c.max.ensures)) c.slots_behind-own.ensures c.slots_behind-after.ensures
    (own_climbs k) c.in_ok-here.ensures c.in_ok-rest.ensures c.line_here.ensures c.in_ok-push_mark.ensures c.in_ok-push_refused.ensures c.in_ok-push_part.ensures
    ∙ ap (λ (n : ℕ). c.args.text.now.items ++ refused_text rows c.args.source.now (record { line = n; column = c.args.column; reason = c.args.reason.now })) c.from-line.ensures
