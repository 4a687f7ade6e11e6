-- The parts where nothing is pending and no bubble is next.
use Rattle.std.proofs.Common.{◌∙◌}
use Rattle.m88_board.proofs.Beginning.{seen_drained, unended}
use Rattle.m88_board.proofs.board.Board.into_parts_midway.Goals as goal

pub returns-clause-parts : goal.returns-clause-parts
returns-clause-parts c = c.take_apart.ensures.whole c.requires.empty

pub returns-clause-seen : goal.returns-clause-seen
returns-clause-seen c =
    seen_drained c.args.self c.take_apart.result c.take_apart.ensures.kept (returns-clause-parts c) c.requires.empty c.requires.valid
    ∙ unended c.args.self c.requires.going
