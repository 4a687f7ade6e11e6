-- One piece more, and all.
use Rattle.std.proofs.Common.{[], arith}
use Rattle.m88_sourcing.specs.Source.{ArePieceLines}
use Rattle.m88_sourcing.specs.Source.ArePieceLines.{no_piece}
use Rattle.m88_sourcing.proofs.Appending.{all_front, more_front}
use Rattle.m88_sourcing.proofs.Piecing.{next_whole, part_end, told_up_to}
use Rattle.m88_sourcing.proofs.pieces.push_part.Goals as goal

pub push_piece-requires-clause-end : goal.push_piece-requires-clause-end
push_piece-requires-clause-end c =
    part_end c.args.image.now c.args.at c.loop-done.done c.args.bytes.now c.split_at.result.1.now c.requires.part
    c.loop-done-test.true c.split_at.ensures.back_len

pub push_piece-requires-clause-whole : goal.push_piece-requires-clause-whole
push_piece-requires-clause-whole c = λ code.
    next_whole c.args.image.now c.requires.outlined.0 c.args.outline.now c.args.at c.loop-done.done c.args.bytes.now
    c.requires.outlined.1 c.requires.part c.loop-done-test.true c.loop-done.invariant.whole code

pub loop-done-preserved : goal.loop-done-preserved
loop-done-preserved c = record {
  within =
      let n = c.in_ok-len.ensures.within in
      let back = c.split_at.ensures.back_len in
      let done = c.loop-done.invariant.within in
      omega (arith, n, back, done);
  whole =
      told_up_to c.args.at c.loop-done.done c.in_ok-len.len _ _ c.loop-done-test.true
      c.split_at.ensures.back_len c.in_ok-len.ensures.whole;
  so_far = λ said is.
      more_front (ArePieceLines (λ _. []) c.args.image.now said) c.args.at c.loop-done.done
      c.in_ok-len.len c.args.bytes.now c.split_at.result.1.now c.args.text.now.items c.loop-done.text.items
      c.push_piece.new.text.items c.split_at.ensures.back (c.loop-done.invariant.so_far said is)
      (c.in_ok-len.ensures.lines said is);
}

pub returns : goal.returns
returns c = λ said is.
    all_front (ArePieceLines (λ _. []) c.args.image.now said) (λ a. no_piece) c.args.at c.loop-done.done
    c.args.bytes.now _ _ (omega arith) (c.loop-done.invariant.so_far said is)
