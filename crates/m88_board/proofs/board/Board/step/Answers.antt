-- The event is the move of what is seen, and so goes along the timeline; the board behind it is shown.
use Rattle.std.specs.Prelude.{[], ◌∷◌}
use Rattle.std.proofs.Common.{ℕ, ◌<◌, ap, subst, sym}
use Rattle.m88_event.specs.Timeline.{after_letter}
use Rattle.m88_board.proofs.Briefly.{told_counted}
use Rattle.m88_board.proofs.Evicted.{evicted_counted}
use Rattle.m88_board.proofs.Happening.{happens}
use Rattle.m88_board.proofs.Seeing.{saw_same}
use Rattle.m88_board.proofs.Shown.{glance_is}
use Rattle.m88_board.proofs.Telling.{told_at}
use Rattle.m88_board.specs.Glances.{glance_at, glance_of}
use Rattle.m88_board.specs.Inside.Briefly.{happened_of}
use Rattle.m88_board.specs.Kept.{most_events}
use Rattle.m88_board.specs.Told.{WentOn}
use Rattle.m88_board.specs.declared.glance.Glance.{Glance}
use Rattle.m88_board.proofs.board.Board.step.Goals as goal

pub count-requires : goal.count-requires
count-requires g c = subst (λ (n : ℕ). n < most_events) (sym c.in_ok-brief.ensures.brings.events) c.requires

pub returns-clause-happens : goal.returns-clause-happens
returns-clause-happens g c =
    let event = happens c.args.letter c.args.self.now c.take.new.self c.in_ok-brief.brief c.count.new.self
    c.count.ensures.counted c.count.ensures.kept c.in_ok-brief.ensures.brings in
    record {
      happens = event;
      ok = λ r m at.
          let next = event.timeline r m at in
          let after = after_letter r c.args.letter m in
          record {
            at = next;
            saw =
                saw_same _ _ (glance_of c.count.new.self ∷ []) (glance_at r.program after ∷ [])
                (ap (λ (glance : Glance). glance ∷ [])
                (glance_is r after c.count.new.self next event.kept.slots))
                c.after.ensures;
          };
    }

pub returns-clause-evicts : goal.returns-clause-evicts
returns-clause-evicts g c = λ letter.
    let evicts = c.in_ok-brief.ensures.evicts letter in
    record {
      says = evicts.says;
      evicted = evicted_counted c.args.self.now c.take.new.self c.count.new.self c.count.ensures.counted evicts.evicted;
    }

pub returns-clause-tells : goal.returns-clause-tells
returns-clause-tells g c = record {
  told_at = λ letter asked r m at.
      let tells = c.in_ok-brief.ensures.tells letter in
      told_at r m c.args.self.now at (happened_of c.in_ok-brief.brief c.count.new.self) c.take.new.told
      (λ went. tells.word r.program at.image
      (subst WentOn (sym (told_counted c.in_ok-brief.brief c.take.new.self c.count.new.self c.count.ensures.counted)) went))
      (λ change issued. tells.changes.plan asked r.program change at.image issued);
  made = c.in_ok-brief.ensures.made;
}
