-- A byte is put out.
use Rattle.std.proofs.Common.{ap, rules}
use Rattle.m88_ctrl.specs.ControlRegisters.{ControlRegisters}
use Rattle.m88_event.specs.Choice.{serves}
use Rattle.m88_event.specs.declared.letter.Letter.TheVariants.{Issue}
use Rattle.m88_board.proofs.Brought.{brought}
use Rattle.m88_board.proofs.PutOut.{said_and_done}
use Rattle.m88_board.specs.contracts.board.Board.{the_view}
use Rattle.m88_board.specs.declared.brief.Brief.TheVariants.{Served}
use Rattle.m88_board.proofs.board.Board.put_out.Goals as goal

pub returns : goal.returns
returns c =
    let next = rw (← c.self.view_is) at c.requires.next in
    let comes = rw (← c.self.view_is) at c.requires.comes in
    let b = the_view c.self.inside in
    rw (← c.self.view_is)
    (brought Issue (serves c.args.byte) b (Served c.args.byte) _ comes
    (λ fault. said_and_done fault c.args.byte b c.advance.new.iunit c.visit.new.ctrl _ c.following-next.result.addr next.due.valid
    (search rules) c.advance.ensures.advanced (ap (λ (r : ControlRegisters). r.psr) c.visit.ensures) (search rules))
    (λ still. absurd still) c.visit.ensures)
