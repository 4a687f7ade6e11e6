-- The bytes at an address and their number are the same in whatever order the sections are put.
use Rattle.std.proofs.Common.{◌≤◌, ◌∙◌, sym, ap, subst, arith, length}
use Rattle.std.proofs.lemmas.List.Sorted.{sum_by-IsPermutation}
use Rattle.m88_base.specs.Image.{most_bytes}
use Rattle.m88_base.specs.Placed.{Placed, byte_among, count_among}
use Rattle.m88_link.specs.Inside.Carried.{AreAlone}
use Rattle.m88_link.proofs.Imaged.{alone_in_order, found_in_order}
use Rattle.m88_link.proofs.placing.image_of.Goals as goal

pub put-requires-clause-alone : goal.put-requires-clause-alone
put-requires-clause-alone c =
    subst (λ l. AreAlone l) (sym c.deref.ensures.value)
    (alone_in_order c.args.spots.items c.sort_unstable_by_key.new.self.items c.sort_unstable_by_key.ensures.permutation c.requires.alone)

pub put-requires-clause-fit : goal.put-requires-clause-fit
put-requires-clause-fit c =
    subst (λ l. count_among l ≤ most_bytes) (sym c.deref.ensures.value)
    (omega (arith, sum_by-IsPermutation (λ (p : Placed). length p.bytes) c.args.spots.items c.sort_unstable_by_key.new.self.items c.sort_unstable_by_key.ensures.permutation, c.requires.fit))

pub returns-clause-bytes : goal.returns-clause-bytes
returns-clause-bytes c =
    λ a.
    c.in_ok-put.ensures.bytes a
    ∙ ap (λ l. byte_among l a) c.deref.ensures.value
    ∙ found_in_order c.args.spots.items c.sort_unstable_by_key.new.self.items c.sort_unstable_by_key.ensures.permutation c.requires.alone a

pub returns-clause-count : goal.returns-clause-count
returns-clause-count c =
    c.in_ok-put.ensures.count
    ∙ ap (λ l. count_among l) c.deref.ensures.value
    ∙ sum_by-IsPermutation (λ (p : Placed). length p.bytes) c.args.spots.items c.sort_unstable_by_key.new.self.items c.sort_unstable_by_key.ensures.permutation
