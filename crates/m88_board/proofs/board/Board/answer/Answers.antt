-- Nothing is pending.
use Rattle.std.proofs.Common.{◌∙◌, sym}
use Rattle.m88_board.proofs.Brought.{idle_brings}
use Rattle.m88_board.specs.contracts.board.Board.{the_view}
use Rattle.m88_board.proofs.board.Board.answer.Goals as goal

pub returns-in-None : goal.returns-in-None
returns-in-None c =
    rw (← c.self.view_is) (idle_brings (the_view c.self.inside) (sym c.oldest.ensures.value ∙ c.in-None.is))
