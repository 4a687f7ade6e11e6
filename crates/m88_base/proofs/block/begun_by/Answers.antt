-- All runs where the last begins there, else what halving finds.
use Rattle.std.proofs.Common.{arith, rules}
use Rattle.std.specs.Prelude.{leb}
use Rattle.std.proofs.lemmas.List.Sorted.{IsPartitionPoint-from_clause, IsPartitionedBy-leb}
use Rattle.m88_base.specs.Placed.{Placed}
use Rattle.m88_base.proofs.Lasts.{all_pass}
use Rattle.m88_base.proofs.block.begun_by.Goals as goal

pub returns-in-Some : goal.returns-in-Some
returns-in-Some c = record {
  bound = omega arith;
  parted =
      all_pass (λ (run : Placed). leb run.at c.args.at) c.args.runs.now c.in-Some.run'.now
      (IsPartitionedBy-leb (λ (run : Placed). run.at) c.args.runs.now c.args.at c.requires)
      c.in-Some.ensures.item.3.0 c.in-Some.ensures.item.1 (search rules);
}

pub returns-in_default : goal.returns-in_default
returns-in_default c = record {
  bound = omega arith;
  parted =
      IsPartitionPoint-from_clause (λ (run : Placed). leb run.at c.args.at) c.args.runs.now c.partition_point.result
      c.partition_point.ensures.partitioned
      (IsPartitionedBy-leb (λ (run : Placed). run.at) c.args.runs.now c.args.at c.requires)
      (λ a r f k. search rules);
}
