-- The next instruction is found at the address of NIP.
use Rattle.m88_board.proofs.Fetching.{found_next}
use Rattle.m88_board.specs.contracts.board.Board.{the_view}
use Rattle.m88_board.proofs.board.Board.fetch.Goals as goal

pub returns-clause-found : goal.returns-clause-found
returns-clause-found c =
    found_next (the_view c.self.inside) c.args.self.now c.candidate-next.result c.line_at.result c.self.view_is c.self.invariant
    c.requires c.candidate-next.ensures.value c.candidate-next.ensures.word c.line_at.ensures.found
