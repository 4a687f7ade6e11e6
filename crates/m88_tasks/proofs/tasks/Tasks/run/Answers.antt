-- One event after the other.
use Rattle.std.proofs.Common.{ℕ, ◌≡◌, ◌≤◌, ◌+◌, ◌∙◌, ap, arith, false, length, refl, sym, subst}
use Rattle.m88_event.specs.Letters.{most_letters}
use Rattle.m88_tasks.proofs.Ending.{ran_shared, shared_only}
use Rattle.m88_tasks.proofs.Running.{room_few, room_first, room_left, room_next, room_within, went_first, went_next}
use Rattle.m88_tasks.specs.Shared.{after_share, shared_after}
use Rattle.m88_tasks.specs.Tasks.{IsTasksAt, is_over_view}
use Rattle.m88_tasks.specs.declared.letter.ShareLetter.{ShareLetter}
use Rattle.m88_tasks.proofs.tasks.Tasks.run.Goals as goal

pub loop-self-init : goal.loop-self-init
loop-self-init c = record {
  count = c.requires;
  room = room_first (length c.args.schedule.now) c.args.schedule.now c.args.self c.events.ensures.kept refl;
  went = λ g at. went_first g c.args.schedule.now c.args.self at;
}

pub event-requires : goal.event-requires
event-requires c =
    let inv = c.loop-self.invariant in
    let going : is_over_view c.loop-self.self ≡ false = sym c.is_over.ensures.value ∙ c.loop-self-test.true in
    let value = c.len.ensures.value in
    let bound = c.len.ensures.bound in
    let short : length c.args.schedule.now ≤ most_letters = omega (arith, value, bound) in
    let left = room_left (length c.args.schedule.now) c.args.schedule.now c.loop-self.taken (length c.args.self.programs.contexts)
    c.args.self.programs.board.limit c.loop-self.self inv.room going in
    let few = room_few (length c.args.schedule.now) c.args.schedule.now c.loop-self.taken (length c.args.self.programs.contexts)
    c.args.self.programs.board.limit c.loop-self.self inv.room short in
    let count = inv.count in
    record { going = going; room = omega (arith, left, few, count) }

pub loop-self-preserved : goal.loop-self-preserved
loop-self-preserved c =
    let inv = c.loop-self.invariant in
    let going : is_over_view c.loop-self.self ≡ false = sym c.is_over.ensures.value ∙ c.loop-self-test.true in
    record {
      count = c.in_ok-event.ensures.made.counted ∙ ap (λ (n : ℕ). n + 1) inv.count;
      room = room_next (length c.args.schedule.now) c.args.schedule.now c.loop-self.taken (length c.args.self.programs.contexts)
          c.args.self.programs.board.limit c.loop-self.self c.event.new.self inv.room going
          (λ g s at. subst (λ (l : ShareLetter). IsTasksAt g (after_share g l s) c.event.new.self) c.letter_at.ensures
          (c.in_ok-event.ensures.made.timeline g s at));
      went = λ g at.
          let went = inv.went g at in
          went_next g c.args.schedule.now c.loop-self.taken c.loop-self.self c.event.new.self went going
          (subst (λ (l : ShareLetter). IsTasksAt g (after_share g l (shared_after g c.args.schedule.now c.loop-self.taken)) c.event.new.self)
          c.letter_at.ensures
          (c.in_ok-event.ensures.made.timeline g (shared_after g c.args.schedule.now c.loop-self.taken) went.at));
    }

pub loop-self-smaller : goal.loop-self-smaller
loop-self-smaller c =
    let going : is_over_view c.loop-self.self ≡ false = sym c.is_over.ensures.value ∙ c.loop-self-test.true in
    let left = room_left (length c.args.schedule.now) c.args.schedule.now c.loop-self.taken (length c.args.self.programs.contexts)
    c.args.self.programs.board.limit c.loop-self.self c.loop-self.invariant.room going in
    omega (arith, left)

pub returns : goal.returns
returns c =
    let inv = c.loop-self.invariant in
    record {
      ran = ran_shared c.outcome.result c.args.schedule.now c.loop-self.taken c.args.self c.loop-self.self inv.went
          (sym c.is_over.ensures.value ∙ c.loop-self-test.false) inv.count
          (room_within (length c.args.schedule.now) c.args.schedule.now c.loop-self.taken (length c.args.self.programs.contexts)
          c.args.self.programs.board.limit c.loop-self.self inv.room) c.outcome.ensures;
      only = λ g o other a b. shared_only g c.args.schedule.now o other a b;
    }
