-- The lines of the parts so far are there.
use Rattle.std.proofs.Common.{[], drop}
use Rattle.m88_base.specs.Image.{parts}
use Rattle.m88_sourcing.specs.Inside.Appended.{FrontAppended}
use Rattle.m88_sourcing.specs.Inside.Members.{OutlinesImage}
use Rattle.m88_sourcing.specs.Said.{Said}
use Rattle.m88_sourcing.specs.Source.{AreSourceLines}
use Rattle.m88_sourcing.proofs.pieces.push_parts.Given as goal

abbrev pub invariant-loop-index : goal.invariant-loop-index
invariant-loop-index l =
    (said : Said) → OutlinesImage l.image said l.outline
    → FrontAppended (AreSourceLines (λ _. []) l.image said (parts l.image))
    (AreSourceLines (λ _. []) l.image said (drop l.index (parts l.image))) l.initial.text.items l.text.items
