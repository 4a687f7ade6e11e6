-- The oldest transaction is answered.
use Rattle.std.proofs.Common.{false, refl, sym, ◌∙◌}
use Rattle.m88_event.specs.Choice.{replies}
use Rattle.m88_event.specs.declared.letter.Letter.TheVariants.{Answer}
use Rattle.m88_mem.specs.DataBus.{absent_of}
use Rattle.m88_board.proofs.Brought.{brought}
use Rattle.m88_board.proofs.Choosing.{answer_is}
use Rattle.m88_board.proofs.Moving.{answer_chosen}
use Rattle.m88_board.proofs.Steps.{replied}
use Rattle.m88_board.specs.contracts.board.Board.{the_view}
use Rattle.m88_board.specs.declared.brief.Brief.TheVariants.{Answered}
use Rattle.m88_board.proofs.board.Board.reply.Goals as goal

pub returns : goal.returns
returns c =
    let oldest = rw (← c.self.view_is) at c.requires.oldest in
    let present = rw (← c.self.view_is) at c.requires.present in
    let b = the_view c.self.inside in
    rw (← c.self.view_is)
    (brought Answer replies b Answered _
    (λ p of. answer_chosen p b
    ∙ answer_is b.pending c.args.oldest.now (absent_of b.memory) false (sym oldest) present)
    (λ fault. record {
      says = refl;
      does = replied fault b c.complete.new.unit c.complete.new.regs c.complete.new.memory
          c.complete.ensures.pending c.complete.ensures.cells c.complete.ensures.bus c.complete.ensures.absent c.complete.ensures.image;
    })
    (λ still. absurd still) refl)
