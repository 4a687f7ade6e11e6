-- What stays in an event: the run.
use Rattle.std.proofs.Common.{refl, ◌∙◌}
use Rattle.m88_board.specs.Board.{BoardView}
use Rattle.m88_board.specs.Moves.{IsSameRun}

-- one run, and one after the other
pub same_run : (b : BoardView) → IsSameRun b b
same_run b = record { limit = refl; mxm = refl; named = refl; image = refl; begun = refl }

pub same_then : (a b c : BoardView) → IsSameRun a b → IsSameRun b c → IsSameRun a c
same_then a b c first second = record {
  limit = second.limit ∙ first.limit;
  mxm = second.mxm ∙ first.mxm;
  named = second.named ∙ first.named;
  image = second.image ∙ first.image;
  begun = second.begun ∙ first.begun;
}
