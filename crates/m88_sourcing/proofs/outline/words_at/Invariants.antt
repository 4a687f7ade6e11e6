-- The words of the addresses so far are there.
use Rattle.std.proofs.Common.{ℕ, Contains, IsTrue, map, take}
use Rattle.std.specs.Prelude.{◌↔◌}
use Rattle.std.specs.FinSet.{contains}
use Rattle.m88_isa.specs.Address.{word_address}
use Rattle.m88_sourcing.proofs.outline.words_at.Given as goal

abbrev pub invariant-loop-at : goal.invariant-loop-at
invariant-loop-at l =
    (a : ℕ) → IsTrue (contains l.words a) ↔ Contains (map word_address (take l.at-index l.addresses)) a
