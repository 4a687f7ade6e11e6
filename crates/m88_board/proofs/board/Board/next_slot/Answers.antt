-- NIP at a moment.
use Rattle.std.proofs.Common.{◌∙◌}
use Rattle.m88_board.proofs.Shown.{nip_seen}
use Rattle.m88_board.specs.contracts.board.Board.{the_view}
use Rattle.m88_board.proofs.board.Board.next_slot.Goals as goal

pub returns-clause-moment : goal.returns-clause-moment
returns-clause-moment c = λ r m at.
    c.candidate.ensures.value
    ∙ nip_seen r m (the_view c.self.inside) (rw (← c.self.view_is) at at) c.self.invariant.slots
