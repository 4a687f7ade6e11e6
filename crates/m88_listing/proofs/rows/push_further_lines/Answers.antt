-- The line of one piece more, and no piece is left.
use Rattle.std.proofs.Common.{◌∙◌, ap, arith, length, length-append}
use Rattle.std.specs.Slice.Iter.{chunks_rest}
use Rattle.m88_listing.proofs.Texts.{further_done, further_more}
use Rattle.m88_listing.proofs.rows.push_further_lines.Goals as goal

pub loop-piece-preserved : goal.loop-piece-preserved
loop-piece-preserved c =
    let steps = c.in-Some.ensures.steps in
    let size = rw c.loop-piece.invariant.size at steps.1.1 in
    let count = ap length steps.1.0 ∙ length-append c.in-Some.piece.now (chunks_rest c.next.new.self) in
    record {
      size = steps.0 ∙ c.loop-piece.invariant.size;
      fits = λ some. let before = c.loop-piece.invariant.fits steps.1.2 in omega (arith, some, count, size, before);
      left = further_more _ _ _ _ _ _ c.args.at c.loop-piece.number steps.1.0 size steps.1.2 c.in_ok-push_further.ensures c.loop-piece.invariant.left;
    }

pub returns : goal.returns
returns c = further_done _ _ _ c.args.at c.loop-piece.number c.in-None.ensures.steps.1.0 c.loop-piece.invariant.left
