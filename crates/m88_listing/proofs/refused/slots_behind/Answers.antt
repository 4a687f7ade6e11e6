-- What halving finds.
use Rattle.std.proofs.Common.{◌∙◌, rules}
use Rattle.std.specs.Prelude.{nat_lt}
use Rattle.std.proofs.lemmas.List.Sorted.{IsPartitionPoint-from_clause, IsPartitionedBy-ltb}
use Rattle.m88_listing.specs.declared.slots.Slot.{Slot}
use Rattle.m88_listing.proofs.Walking.{climb_rises, cut_behind}
use Rattle.m88_listing.proofs.refused.slots_behind.Goals as goal

pub returns : goal.returns
returns c =
    let ss = c.args.slots.now in
    let n = c.args.number in
    c.split_at.ensures.back
    ∙ cut_behind n ss c.partition_point-before.result c.partition_point-before.ensures.bound
    (IsPartitionPoint-from_clause (λ (s : Slot). nat_lt s.line n) ss c.partition_point-before.result c.partition_point-before.ensures.partitioned
    (IsPartitionedBy-ltb (λ (s : Slot). s.line) ss n (climb_rises 1 ss c.requires)) (λ a r f k. search rules))
