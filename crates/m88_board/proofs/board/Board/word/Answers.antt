-- A word at a moment.
use Rattle.std.proofs.Common.{ap, ◌∙◌, ℕ}
use Rattle.m88_board.proofs.Ending.{memory_is}
use Rattle.m88_board.proofs.Shown.{words_seen}
use Rattle.m88_board.specs.contracts.board.Board.{the_view}
use Rattle.m88_board.proofs.board.Board.word.Goals as goal

pub returns-clause-moment : goal.returns-clause-moment
returns-clause-moment c = λ r m at.
    c.word.ensures
    ∙ ap (λ (bus : ℕ → ℕ). bus c.args.addr) (words_seen r m (the_view c.self.inside) (rw (← c.self.view_is) at at))

pub returns-clause-drained : goal.returns-clause-drained
returns-clause-drained c = λ r m at drained.
    let stands = rw (← c.self.view_is) at at in
    c.word.ensures
    ∙ ap (λ (bus : ℕ → ℕ). bus c.args.addr) (memory_is r m (the_view c.self.inside) stands c.self.invariant drained)
