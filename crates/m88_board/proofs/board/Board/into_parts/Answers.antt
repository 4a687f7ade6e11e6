-- Nothing is pending of a board whose program has ended, and no bubble is next.
use Rattle.m88_board.proofs.Beginning.{seen_back, seen_drained}
use Rattle.m88_board.proofs.board.Board.into_parts.Goals as goal

pub returns-clause-parts : goal.returns-clause-parts
returns-clause-parts c = c.take_apart.ensures.whole (c.take_apart.ensures.kept.drained c.requires)

pub returns-clause-mode : goal.returns-clause-mode
returns-clause-mode c =
    seen_drained c.args.self c.take_apart.result c.take_apart.ensures.kept (returns-clause-parts c)
    (c.take_apart.ensures.kept.drained c.requires) (c.take_apart.ensures.kept.unbubbled c.requires)

pub returns-clause-seen : goal.returns-clause-seen
returns-clause-seen c = seen_back c.args.self c.take_apart.result (returns-clause-mode c)
