-- What halving finds.
use Rattle.std.proofs.Common.{arith, rules}
use Rattle.std.specs.Prelude.{leb}
use Rattle.std.proofs.lemmas.List.Sorted.{IsPartitionPoint-from_clause, IsPartitionedBy-leb}
use Rattle.m88_base.proofs.blocks.counted_by.Goals as goal

pub returns-in_default : goal.returns-in_default
returns-in_default c = record {
  bound = omega arith;
  parted =
      IsPartitionPoint-from_clause (λ start. leb start c.args.index) c.args.starts.now c.partition_point.result
      c.partition_point.ensures.partitioned
      (IsPartitionedBy-leb (λ start. start) c.args.starts.now c.args.index c.requires)
      (λ a r f k. search rules);
}
