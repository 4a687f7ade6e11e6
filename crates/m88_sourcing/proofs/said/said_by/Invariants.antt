-- What the hints so far say is there.
use Rattle.std.proofs.Common.{◌≡◌, List, length}
use Rattle.std.specs.Prelude.{flat_map}
use Rattle.m88_base.specs.Words.{texts}
use Rattle.m88_sourcing.specs.Said.{entries_in, fixed_in}
use Rattle.m88_sourcing.specs.declared.hint.Hint.{Hint}
use Rattle.m88_sourcing.proofs.InTurn.{AreRead}
use Rattle.m88_sourcing.proofs.said.said_by.Given as goal

abbrev pub invariant-loop-leading : goal.invariant-loop-leading
invariant-loop-leading l =
    (hints : List Hint) × AreRead (texts l.words) (texts l.rest) hints
    × (l.said.entries.items ≡ flat_map entries_in hints) × (l.said.fixed.items ≡ flat_map fixed_in hints)

abbrev pub decreases-loop-leading : goal.decreases-loop-leading
decreases-loop-leading l = length l.rest
