-- The lines up to that of the next slot, and its own; behind the last slot those up to the number.
use Rattle.std.proofs.Common.{◌≡◌, arith, inl, inr, length, refl}
use Rattle.std.proofs.lemmas.Grind.{common_steps}
use Rattle.std.proofs.lemmas.Result.{IfOk-weaker}
use Rattle.m88_base.specs.Image.{byte_at}
use Rattle.m88_listing.proofs.Walking.{part_ended, part_row, part_stopped}
use Rattle.m88_listing.proofs.rows.push_part.Goals as goal

pub loop-slot-init : goal.loop-slot-init
loop-slot-init c =
    record { left = refl; rest_is = refl; forward = omega arith; within = c.requires.forward; shorter = omega arith; climb = c.requires.climb }

pub push_lines-requires : goal.push_lines-requires
push_lines-requires c = omega (arith, c.requires.short, c.loop-slot.invariant.shorter)

pub push_lines-requires-2 : goal.push_lines-requires-2
push_lines-requires-2 c = omega (arith, c.requires.short, c.loop-slot.invariant.shorter)

pub count_on-requires : goal.count_on-requires
count_on-requires c =
    omega (arith, c.requires.short, c.first_line.ensures.shorter, c.in_ok-here.ensures.shorter, c.loop-slot.invariant.shorter)

pub returns-then-stop-until : goal.returns-then-stop-until
returns-then-stop-until c =
    part_stopped (byte_at c.args.image.now) c.args.slots.now c.loop-slot.slot-index _ c.args.source.now c.loop-slot.rest.now c.in_ok-here.here.now
    c.args.text.now.items c.loop-slot.text.items _ c.args.column.now c.loop-slot.column c.min-stop.result c.args.until _ c.from.result
    c.loop-slot-test.true c.from.ensures c.min-stop.ensures (inr c.if-stop-until.true) c.loop-slot.invariant c.in_ok-here.ensures

pub returns-then-is_empty : goal.returns-then-is_empty
returns-then-is_empty c =
    let none : length c.in_ok-here.here.now ≡ 0 = grind (arith, common_steps) in
    part_stopped (byte_at c.args.image.now) c.args.slots.now c.loop-slot.slot-index _ c.args.source.now c.loop-slot.rest.now c.in_ok-here.here.now
    c.args.text.now.items c.loop-slot.text.items _ c.args.column.now c.loop-slot.column c.min-stop.result c.args.until _ c.from.result
    c.loop-slot-test.true c.from.ensures c.min-stop.ensures (inl none) c.loop-slot.invariant c.in_ok-here.ensures

pub loop-slot-preserved : goal.loop-slot-preserved
loop-slot-preserved c =
    part_row (byte_at c.args.image.now) c.args.slots.now c.loop-slot.slot-index _ c.args.source.now c.loop-slot.rest.now c.in_ok-here.here.now
    c.first_line.result.1.now c.first_line.result.0.now c.args.text.now.items c.loop-slot.text.items _ _ c.args.column.now c.loop-slot.column
    c.min-stop.result c.args.until _ c.from.result c.number.result _ c.loop-slot-test.true c.from.ensures c.min-stop.ensures c.if-stop-until.false
    c.loop-slot.invariant c.in_ok-here.ensures (omega (arith, c.first_line.ensures.shorter)) c.first_line.ensures.lines c.first_line.ensures.shorter
    c.number.ensures c.in_ok-push_row.ensures c.count_on.ensures

pub returns : goal.returns
returns c =
    IfOk-weaker c.push_lines-2.result _ _
    (λ left h. part_ended (byte_at c.args.image.now) c.args.slots.now c.loop-slot.slot-index c.args.source.now c.loop-slot.rest.now left.now
    c.args.text.now.items c.loop-slot.text.items _ c.args.column.now c.loop-slot.column c.args.until _ c.loop-slot-test.false c.loop-slot.invariant h)
    c.push_lines-2.ensures
