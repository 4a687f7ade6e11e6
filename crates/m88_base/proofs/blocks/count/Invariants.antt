-- The runs ahead of the blocks that were passed are counted, and the total is that of the next block.
use Rattle.std.proofs.Common.{◌≡◌, length, take}
use Rattle.m88_base.specs.Inside.Blocks.{CountsTo, all_runs}
use Rattle.m88_base.proofs.blocks.count.Given as goal

abbrev pub invariant-loop-at : goal.invariant-loop-at
invariant-loop-at l = record {
  long : length l.starts ≡ length l.blocks;
  counted : CountsTo l.at l.starts l.blocks;
  total : l.total ≡ length (all_runs (take l.at l.blocks));
}
