-- The pending transactions of a moment.
use Rattle.std.proofs.Common.{◌∙◌, ap, length, rules}
use Rattle.m88_board.proofs.Shown.{pending_seen}
use Rattle.m88_board.proofs.board.Board.pending.Goals as goal

pub returns-clause-value : goal.returns-clause-value
returns-clause-value c = search rules

pub returns-clause-moment : goal.returns-clause-moment
returns-clause-moment c = λ r m at.
    returns-clause-value c ∙ ap length (pending_seen r m c.args.self.now at)
