-- The hints so far were read and counted.
use Rattle.std.proofs.Common.{List, length}
use Rattle.m88_base.specs.Words.{texts}
use Rattle.m88_sourcing.specs.Inside.Asked.{AreTallied}
use Rattle.m88_sourcing.specs.declared.hint.Hint.{Hint}
use Rattle.m88_sourcing.proofs.InTurn.{AreRead}
use Rattle.m88_sourcing.proofs.request.tally_of.Given as goal

abbrev pub invariant-loop-rest : goal.invariant-loop-rest
invariant-loop-rest l = (hints : List Hint) × AreRead (texts l.words) (texts l.rest) hints × AreTallied hints l.tally

abbrev pub decreases-loop-rest : goal.decreases-loop-rest
decreases-loop-rest l = length l.rest
