-- What is kept is that of the statement.
use Rattle.std.proofs.Common.{◌≡◌, ◌∙◌, ◌+◌, ◌≤◌, ◌<◌, ◌^◌, ◌++◌, List, ap, sym, subst, arith, rules, ℕ}
use Rattle.std.proofs.Common.{Vec, Global}
use Rattle.m88_base.specs.Image.{most_bytes}
use Rattle.m88_asm.specs.Counters.{Counters, Located, at_section, length_at, length_of, offset_here, place_here, with_length}
use Rattle.m88_asm.specs.Units.{base_in}
use Rattle.m88_listing.specs.Inside.Slots.{counters_in}
use Rattle.m88_listing.specs.declared.slots.Slot.{Slot}
use Rattle.m88_listing.proofs.Keeping.{slots_none, slots_some}
use Rattle.m88_listing.proofs.layout.push_slot.Goals.{then-len-gt0+in_ok-push, else-len-gt0+in_ok-push_named}
use Rattle.m88_listing.proofs.layout.push_slot.Goals as goal

pub place-requires : goal.place-requires
place-requires c =
    subst (λ (k : Counters). offset_here k ≤ most_bytes) (sym c.in_ok-enter.ensures) (omega (arith, c.requires.room))

pub overflow_cast-offset : goal.overflow_cast-offset
overflow_cast-offset c =
    let offset = c.offset.ensures ∙ ap offset_here c.in_ok-enter.ensures in
    let small : c.offset.result < 2 ^ 32 = omega (arith, offset, c.requires.room) in
    search rules

pub overflow_add-base : goal.overflow_add-base
overflow_add-base c =
    let entered = c.in_ok-enter.ensures in
    let offset = c.offset.ensures ∙ ap offset_here entered in
    let here = c.here.ensures ∙ ap (λ (k : Counters). k.here) entered in
    let base = c.base.ensures ∙ ap (base_in c.args.standing.now) here in
    let len = c.length_at-len.ensures ∙ ap (λ (p : ℕ). length_at p c.args.x.now.body) (c.place.ensures ∙ ap place_here entered) in
    let within = c.requires.within (omega (arith, len, c.if-len-gt0.true)) in
    let small : c.base.result + c.offset.result < 2 ^ 32 = omega (arith, offset, base, len, within, c.if-len-gt0.true) in
    search rules

pub advance-requires : goal.advance-requires
advance-requires c =
    let entered = c.in_ok-enter.ensures in
    let len = c.length_at-len.ensures ∙ ap (λ (p : ℕ). length_at p c.args.x.now.body) (c.place.ensures ∙ ap place_here entered) in
    omega (arith, ap offset_here entered, len, c.requires.room)

pub returns : goal.returns
returns c =
    let entered = c.in_ok-enter.ensures in
    let b = c.args.standing.now in
    let r : Located = record { before = counters_in c.args.cursor.now; statement = c.args.x.now } in
    let len : c.length_at-len.result ≡ length_of r =
    c.length_at-len.ensures ∙ ap (λ (p : ℕ). length_at p c.args.x.now.body) (c.place.ensures ∙ ap place_here entered) in
    record {
      cursor = c.advance.ensures ∙ ap (λ (k : Counters). with_length k c.length_at-len.result) entered
          ∙ ap (with_length (at_section (counters_in c.args.cursor.now) c.args.x.now.body)) len;
      slots = elim c.if-len-gt0.branch [
        | then-len-gt0+in_ok-push w ↦
            let offset = w.offset.ensures ∙ ap offset_here entered in
            let here = w.here.ensures ∙ ap (λ (k : Counters). k.here) entered in
            let base = w.base.ensures ∙ ap (base_in b) here in
            ap (λ (v : Vec Slot Global). v.items) w.slots-is ∙ w.in_ok-push.ensures.items
            ∙ ap (λ (ss : List Slot). c.args.slots.now.items ++ ss)
            (slots_some b r (w.base.result + w.offset.result) c.length_at-len.result w.shown_as.result w.if-len-gt0.true len
            (omega (arith, base, offset)) w.shown_as.ensures)
        | else-len-gt0+in_ok-push_named w ↦
            ap (λ (v : Vec Slot Global). v.items) w.slots-is ∙ w.in_ok-push_named.ensures
            ∙ ap (λ (ss : List Slot). c.args.slots.now.items ++ ss)
            (slots_none b r c.length_at-len.result c.named_by-named.result (omega (arith, w.if-len-gt0.false)) len c.named_by-named.ensures)
      ];
    }
