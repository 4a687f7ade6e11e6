-- The transactions done of a moment.
use Rattle.m88_board.proofs.AtMoment.{done_at}
use Rattle.m88_board.specs.contracts.board.Board.{the_view}
use Rattle.m88_board.proofs.board.Board.done.Goals as goal

pub returns-clause-moment : goal.returns-clause-moment
returns-clause-moment c = λ r m at. done_at r m (the_view c.self.inside) (rw (← c.self.view_is) at at)
