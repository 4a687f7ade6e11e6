-- The entries so far, with those of the symbols that are left, are all entries.
use Rattle.std.proofs.Common.{◌≡◌, ◌++◌, drop, filter, map}
use Rattle.std.specs.Prelude.{is_none}
use Rattle.m88_asm.specs.Objects.{symbols_in}
use Rattle.m88_listing.specs.Entries.{entries_in, entry_of}
use Rattle.m88_listing.proofs.entries.push_numbers.Given as goal

abbrev pub invariant-loop-symbol : goal.invariant-loop-symbol
invariant-loop-symbol l =
    l.entries.items ++ map (entry_of l.standing) (filter (λ s. is_none s.section) (drop l.symbol-index (symbols_in l.standing.part)))
    ≡ l.initial.entries.items ++ entries_in (λ s. is_none s.section) l.standing
