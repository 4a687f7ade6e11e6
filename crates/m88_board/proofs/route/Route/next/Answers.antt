-- Answers stop where nothing is pending.
use Rattle.std.proofs.Common.{ap, not, sym, ◌∙◌}
use Rattle.m88_board.proofs.Walking.{drained_by}
use Rattle.m88_board.proofs.route.Route.next.Goals as goal

pub returns-then-is_pending-clause-moment : goal.returns-then-is_pending-clause-moment
returns-then-is_pending-clause-moment c = λ r m at.
    rw (c.in-Answers.is) (sym (ap not (sym c.is_pending.ensures ∙ c.if-is_pending.true))
    ∙ drained_by r m c.args.board.now at)

pub returns-else-is_pending-clause-moment : goal.returns-else-is_pending-clause-moment
returns-else-is_pending-clause-moment c = λ r m at.
    rw (c.in-Answers.is) (sym (ap not (sym c.is_pending.ensures ∙ c.if-is_pending.false))
    ∙ drained_by r m c.args.board.now at)
