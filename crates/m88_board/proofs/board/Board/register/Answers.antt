-- A register that waits has no value, every other its own.
use Rattle.std.proofs.Common.{◌∙◌}
use Rattle.m88_base.specs.Reg.{number_of}
use Rattle.m88_board.proofs.Shown.{value_at, register_is}
use Rattle.m88_board.specs.contracts.board.Board.{the_view}
use Rattle.m88_board.proofs.board.Board.register.Goals as goal

pub returns-clause-value : goal.returns-clause-value
returns-clause-value c = rw (← c.self.view_is)
    (register_is (the_view c.self.inside) (number_of c.args.r) c.get.result c.ok.result c.self.invariant.parts.waiting
    c.ok.ensures.value c.get.ensures.busy c.get.ensures.value)

pub returns-clause-moment : goal.returns-clause-moment
returns-clause-moment c = λ r m at.
    register_is (the_view c.self.inside) (number_of c.args.r) c.get.result c.ok.result c.self.invariant.parts.waiting
    c.ok.ensures.value c.get.ensures.busy c.get.ensures.value
    ∙ value_at r m (the_view c.self.inside) (rw (← c.self.view_is) at at) (number_of c.args.r)
