-- The line of one piece more, and no piece is left.
use Rattle.std.proofs.Common.{ap, ◌∙◌, length, length-append, arith}
use Rattle.std.specs.Slice.Iter.{chunks_rest}
use Rattle.m88_srec.proofs.Cutting.{end_of_part, more_of_part}
use Rattle.m88_srec.proofs.writer.push_part.Goals as goal

pub loop-piece-preserved : goal.loop-piece-preserved
loop-piece-preserved c =
    let steps = c.in-Some.ensures.steps in
    let size = rw c.loop-piece.invariant.size at steps.1.1 in
    let count = ap length steps.1.0 ∙ length-append c.in-Some.piece.now (chunks_rest c.next.new.self) in
    record {
      size = steps.0 ∙ c.loop-piece.invariant.size;
      count = omega (arith, count);
      left =
          more_of_part _ _ _ _ _ _ c.args.at c.loop-piece.done steps.1.0 size steps.1.2 c.in_ok-push_data.ensures
          c.loop-piece.invariant.left;
    }

pub returns : goal.returns
returns c = end_of_part _ _ _ _ c.in-None.ensures.steps.1.0 c.loop-piece.invariant.left
