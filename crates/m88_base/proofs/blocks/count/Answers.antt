use Rattle.std.proofs.Common.{add-one, length-set, suc, arith}
use Rattle.m88_base.proofs.InBlocks.{length-take_runs}
use Rattle.m88_base.proofs.Counting.{ahead_within, counts_more}
use Rattle.m88_base.proofs.blocks.count.Goals as goal

pub overflow_add-total : goal.overflow_add-total
overflow_add-total c =
    omega (
      arith,
      c.loop-at.invariant.total,
      c.len-total.ensures,
      length-take_runs c.args.blocks.now c.loop-at.at c.index-blocks-at.result c.loop-at-test.true c.index-blocks-at.is,
      ahead_within c.args.blocks.now (suc c.loop-at.at),
      c.requires.room,
    )

pub loop-at-preserved : goal.loop-at-preserved
loop-at-preserved c = record {
  long = simp length-set c.loop-at.invariant.long;
  counted = rw (add-one, c.loop-at.invariant.total)
      (counts_more c.loop-at.at c.loop-at.starts c.args.blocks.now (omega (arith, c.loop-at.invariant.long, c.loop-at-test.true)) c.loop-at.invariant.counted);
  total = rw add-one
      (omega (
        arith,
        c.loop-at.invariant.total,
        c.len-total.ensures,
        length-take_runs c.args.blocks.now c.loop-at.at c.index-blocks-at.result c.loop-at-test.true c.index-blocks-at.is,
      ));
}
