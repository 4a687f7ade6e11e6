-- The labels are sorted by their values.
use Rattle.std.proofs.Common.{◌≡◌, subst, rules, flat_map}
use Rattle.std.specs.Prelude.{is_some}
use Rattle.std.proofs.lemmas.Fn.{always_returns_same}
use Rattle.std.proofs.lemmas.List.Sorted.{IsNonDecreasingBy-from_sort_by_key}
use Rattle.m88_listing.specs.declared.entries.Entry.{Entry}
use Rattle.m88_listing.specs.Entries.{AreInOrder, entries_in}
use Rattle.m88_listing.proofs.Lines.{all_taken}
use Rattle.m88_listing.proofs.Ordered.{in_order}
use Rattle.m88_listing.proofs.entries.labels.Goals as goal

pub returns : goal.returns
returns c =
    let all : c.loop-standing.entries.items ≡ flat_map (entries_in (λ s. is_some s.section)) c.args.standings.now =
    all_taken (entries_in (λ s. is_some s.section)) c.args.standings.now c.loop-standing.standing-index c.loop-standing.entries.items _
    c.loop-standing-test.false c.loop-standing.invariant in
    subst (λ es. AreInOrder es c.sort_by_key.new.self.items) all
    (in_order c.loop-standing.entries.items c.sort_by_key.new.self.items
    (IsNonDecreasingBy-from_sort_by_key (λ (e : Entry). e.value) _ c.in_ok-sort_by_key.ensures.sorted (λ a r q k. search rules))
    (c.sort_by_key.ensures.stable (λ (e : Entry). e.value) (always_returns_same _ _ _ (λ a r q k. search rules))))
