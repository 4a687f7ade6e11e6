-- The entries so far, with those of the modules that are left, are all entries.
use Rattle.std.proofs.Common.{◌≡◌, ◌++◌, drop, flat_map}
use Rattle.std.specs.Prelude.{is_none}
use Rattle.m88_listing.specs.Entries.{entries_in}
use Rattle.m88_listing.proofs.entries.numbers.Given as goal

abbrev pub invariant-loop-standing : goal.invariant-loop-standing
invariant-loop-standing l =
    l.entries.items ++ flat_map (entries_in (λ s. is_none s.section)) (drop l.standing-index l.standings)
    ≡ flat_map (entries_in (λ s. is_none s.section)) l.standings
