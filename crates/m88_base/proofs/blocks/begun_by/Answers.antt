-- All blocks where the last begins there, else what halving finds.
use Rattle.std.proofs.Common.{sym, ◌∙◌, arith, rules}
use Rattle.std.specs.Prelude.{leb}
use Rattle.std.proofs.lemmas.List.Sorted.{IsPartitionPoint-from_clause, IsPartitionedBy-leb}
use Rattle.m88_base.specs.Inside.Blocks.{first_start}
use Rattle.m88_base.proofs.Lasts.{all_pass}
use Rattle.m88_base.proofs.blocks.begun_by.Goals as goal

pub returns-in-Some : goal.returns-in-Some
returns-in-Some c = record {
  bound = omega arith;
  parted =
      all_pass (λ block. leb (first_start block) c.args.at) c.args.blocks.now c.in-Some.block.now
      (IsPartitionedBy-leb first_start c.args.blocks.now c.args.at c.requires)
      c.in-Some.ensures.item.3.0 c.in-Some.ensures.item.1 (sym c.begins_by.ensures ∙ c.if-begins_by.true);
}

pub returns-in_default : goal.returns-in_default
returns-in_default c = record {
  bound = omega arith;
  parted =
      IsPartitionPoint-from_clause (λ block. leb (first_start block) c.args.at) c.args.blocks.now c.partition_point.result
      c.partition_point.ensures.partitioned
      (IsPartitionedBy-leb first_start c.args.blocks.now c.args.at c.requires)
      (λ a r f k. search rules);
}
