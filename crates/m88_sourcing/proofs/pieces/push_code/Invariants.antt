-- The lines of the words so far are there.
use Rattle.std.proofs.Common.{◌+◌, ◌-◌, ◌*◌, []}
use Rattle.m88_sourcing.specs.Inside.Appended.{FrontAppended}
use Rattle.m88_sourcing.specs.Inside.Members.{OutlinesImage}
use Rattle.m88_sourcing.specs.Said.{Said}
use Rattle.m88_sourcing.specs.Source.{AreCodeLines}
use Rattle.m88_sourcing.proofs.pieces.push_code.Given as goal

abbrev pub invariant-loop-index : goal.invariant-loop-index
invariant-loop-index l =
    (said : Said) → OutlinesImage l.image said l.outline
    → FrontAppended (AreCodeLines (λ _. []) l.image said l.at l.words)
    (AreCodeLines (λ _. []) l.image said (l.at + 4 * l.index) (l.words - l.index)) l.initial.text.items l.text.items
