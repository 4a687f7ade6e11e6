-- The words of the entries so far were noted.
use Rattle.std.proofs.Common.{◌⊎◌, ℕ, Contains, IsTrue, map, take}
use Rattle.std.specs.Prelude.{◌↔◌}
use Rattle.std.specs.FinSet.{contains}
use Rattle.m88_isa.specs.Address.{word_address}
use Rattle.m88_sourcing.proofs.outline.note_entries.Given as goal

abbrev pub invariant-loop-entry : goal.invariant-loop-entry
invariant-loop-entry l =
    (a : ℕ) → IsTrue (contains l.labels a)
    ↔ (IsTrue (contains l.fn.labels a)
    ⊎ (Contains (map word_address (take l.entry-index l.entries)) a × IsTrue (contains l.code a)))
