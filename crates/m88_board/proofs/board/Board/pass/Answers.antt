-- FIP is next.
use Rattle.std.proofs.Common.{ap, not, refl}
use Rattle.m88_base.specs.declared.slot.Slot.{Slot}
use Rattle.m88_event.specs.Choice.{passes}
use Rattle.m88_event.specs.declared.letter.Letter.TheVariants.{Issue}
use Rattle.m88_board.proofs.Brought.{brought}
use Rattle.m88_board.proofs.Fetching.{passes_by}
use Rattle.m88_board.proofs.Steps.{passed}
use Rattle.m88_board.specs.contracts.board.Board.{the_view}
use Rattle.m88_board.specs.declared.brief.Brief.TheVariants.{Bubble}
use Rattle.m88_board.proofs.board.Board.pass.Goals as goal

pub returns : goal.returns
returns c =
    let going = rw (← c.self.view_is) at c.requires.going in
    let bubble = rw (← c.self.view_is) at c.requires.bubble in
    let b = the_view c.self.inside in
    rw (← c.self.view_is)
    (brought Issue passes b Bubble _ (λ p of. passes_by p b going (ap not bubble))
    (λ fault. record {
      says = refl;
      does = passed fault b c.pass_bubble.new.self c.lacks_behind-lacks.result bubble
          (ap (λ (s : Slot). s.v) c.self.invariant.slots.fip) c.pass_bubble.ensures;
    })
    (λ still. absurd still) refl)
