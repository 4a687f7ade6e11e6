-- The events of a moment.
use Rattle.m88_board.proofs.AtMoment.{events_at}
use Rattle.m88_board.specs.contracts.board.Board.{the_view}
use Rattle.m88_board.proofs.board.Board.events.Goals as goal

pub returns-clause-moment : goal.returns-clause-moment
returns-clause-moment c = λ r m at. events_at r m (the_view c.self.inside) (rw (← c.self.view_is) at at)
