use Rattle.std.proofs.Common.{arith}
use Rattle.m88_base.proofs.Counting.{ahead_next, ahead_within}
use Rattle.m88_base.proofs.blocks.ahead.Goals as goal

pub overflow_add-result : goal.overflow_add-result
overflow_add-result c =
    omega (
      arith,
      ahead_next c.args.starts.now c.args.blocks.now c.args.from c.index-blocks-from.result c.requires.counted (omega arith) c.requires.within
          c.index-blocks-from.is,
      ahead_within c.args.blocks.now c.args.from,
      c.len.ensures,
      c.requires.room,
    )

pub returns : goal.returns
returns c =
    rw c.len.ensures
    (ahead_next c.args.starts.now c.args.blocks.now c.args.from c.index-blocks-from.result c.requires.counted (omega arith) c.requires.within
    c.index-blocks-from.is)
