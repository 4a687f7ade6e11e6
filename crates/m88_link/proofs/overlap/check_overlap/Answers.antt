-- The order in which the sections are gone through changes neither whether two have one address nor the least such one.
use Rattle.std.proofs.Common.{subst, sym, rules}
use Rattle.std.proofs.lemmas.List.Sorted.{IsNonDecreasingBy-from_sort_by_key}
use Rattle.std.specs.List.Sorted.{IsNonDecreasingBy, IsPermutation}
use Rattle.std.specs.Prelude.{flat_map}
use Rattle.m88_link.specs.Layout.{Extent, extents_of}
use Rattle.m88_link.specs.Refusal.{AreDisjoint}
use Rattle.m88_link.specs.Inside.Overlap.{IsLeastDouble}
use Rattle.m88_link.proofs.Swept.{disjoint_in_order, double_in_order}
use Rattle.m88_link.proofs.overlap.check_overlap.Goals as goal

pub first_double-requires : goal.first_double-requires
first_double-requires c =
    let sorted = IsNonDecreasingBy-from_sort_by_key (λ (s : Extent). s.at) c.sort_unstable_by_key.new.self.items c.sort_unstable_by_key.ensures.sorted (λ a r q k. search rules) in
    subst (λ l. IsNonDecreasingBy (λ (s : Extent). s.at) l) (sym c.deref.ensures.value) sorted

pub returns-in-None-clause-ok : goal.returns-in-None-clause-ok
returns-in-None-clause-ok c =
    let same = c.sort_unstable_by_key.ensures.permutation in
    disjoint_in_order (flat_map extents_of c.args.placements.now) c.sort_unstable_by_key.new.self.items
    (subst (λ l. IsPermutation l c.sort_unstable_by_key.new.self.items) c.in_ok-extents.ensures same)
    (subst (λ l. AreDisjoint l) c.deref.ensures.value c.in-None.ensures)

pub overlap-requires : goal.overlap-requires
overlap-requires c =
    let same = c.sort_unstable_by_key.ensures.permutation in
    double_in_order (flat_map extents_of c.args.placements.now) c.sort_unstable_by_key.new.self.items c.in-Some.at
    (subst (λ l. IsPermutation l c.sort_unstable_by_key.new.self.items) c.in_ok-extents.ensures same)
    (subst (λ l. IsLeastDouble l c.in-Some.at) c.deref.ensures.value c.in-Some.ensures)
