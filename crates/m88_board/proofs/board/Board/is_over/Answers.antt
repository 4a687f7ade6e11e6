-- Whether a run is over, from what is pending and the marks.
use Rattle.std.proofs.Common.{◌∙◌}
use Rattle.m88_board.proofs.Shown.{not_over_if, over_at, over_if}
use Rattle.m88_board.proofs.board.Board.is_over.Goals as goal

pub returns-then-not-is_pending-clause-value : goal.returns-then-not-is_pending-clause-value
returns-then-not-is_pending-clause-value c =
    over_if c.args.self.now c.is_pending.result c.is_idle.result c.is_pending.ensures c.if-not-is_pending.true c.is_idle.ensures

pub returns-then-not-is_pending-clause-moment : goal.returns-then-not-is_pending-clause-moment
returns-then-not-is_pending-clause-moment c = λ r m at.
    over_if c.args.self.now c.is_pending.result c.is_idle.result c.is_pending.ensures c.if-not-is_pending.true c.is_idle.ensures
    ∙ over_at r m c.args.self.now at

pub returns-else-not-is_pending-clause-value : goal.returns-else-not-is_pending-clause-value
returns-else-not-is_pending-clause-value c =
    not_over_if c.args.self.now c.is_pending.result c.is_pending.ensures c.if-not-is_pending.false

pub returns-else-not-is_pending-clause-moment : goal.returns-else-not-is_pending-clause-moment
returns-else-not-is_pending-clause-moment c = λ r m at.
    not_over_if c.args.self.now c.is_pending.result c.is_pending.ensures c.if-not-is_pending.false
    ∙ over_at r m c.args.self.now at
