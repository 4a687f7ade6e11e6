-- The carry at a moment.
use Rattle.std.proofs.Common.{◌∙◌}
use Rattle.m88_board.proofs.Shown.{carry_seen}
use Rattle.m88_board.specs.contracts.board.Board.{the_view}
use Rattle.m88_board.proofs.board.Board.carry.Goals as goal

pub returns-clause-moment : goal.returns-clause-moment
returns-clause-moment c = λ r m at.
    c.carry.ensures ∙ carry_seen r m (the_view c.self.inside) (rw (← c.self.view_is) at at)
