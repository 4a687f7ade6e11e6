-- Memory at a moment.
use Rattle.std.specs.Prelude.{false}
use Rattle.m88_codec.proofs.Laws.{some_program}
use Rattle.m88_board.proofs.Shown.{memory_seen}
use Rattle.m88_board.specs.contracts.board.Board.{the_view}
use Rattle.m88_board.proofs.board.Board.memory.Goals as goal

pub returns-clause-moment : goal.returns-clause-moment
returns-clause-moment c = λ r m at.
    memory_seen r m (the_view c.self.inside) (rw (← c.self.view_is) at at) c.self.invariant

pub returns-clause-program : goal.returns-clause-program
returns-clause-program c = some_program false c.self.inside.memory.image c.self.invariant.image
