-- The start's word, and those of the addresses so far.
use Rattle.std.proofs.Common.{◌≡◌, ◌∷◌, map, take}
use Rattle.m88_isa.specs.Address.{word_address}
use Rattle.m88_sourcing.proofs.reaching.seeds.Given as goal

abbrev pub invariant-loop-entry : goal.invariant-loop-entry
invariant-loop-entry l =
    l.seeds.items ≡ word_address l.image.start ∷ map word_address (take l.entry-index l.entries)
