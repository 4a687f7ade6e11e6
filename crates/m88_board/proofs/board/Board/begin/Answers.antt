-- A board that begins goes on with MXM clear, behind no bubble.
use Rattle.std.proofs.Common.{◌∙◌}
use Rattle.m88_board.proofs.Beginning.{plainly_seen}
use Rattle.m88_board.proofs.board.Board.begin.Goals as goal

pub returns-clause-seen : goal.returns-clause-seen
returns-clause-seen c = c.resume.ensures.seen ∙ plainly_seen c.args.parts
