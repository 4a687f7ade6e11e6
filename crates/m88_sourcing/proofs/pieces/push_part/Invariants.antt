-- The lines of the bytes so far are there, up to the beginning of a word.
use Rattle.std.proofs.Common.{◌≡◌, ◌⊎◌, ◌+◌, ◌-◌, ◌%◌, ◌≤◌, [], drop, length}
use Rattle.m88_sourcing.specs.Inside.Appended.{FrontAppended}
use Rattle.m88_sourcing.specs.Inside.Members.{OutlinesImage}
use Rattle.m88_sourcing.specs.Said.{Said}
use Rattle.m88_sourcing.specs.Source.{ArePieceLines}
use Rattle.m88_sourcing.proofs.pieces.push_part.Given as goal

abbrev pub invariant-loop-done : goal.invariant-loop-done
invariant-loop-done l = record {
  within : l.done ≤ length l.bytes;
  whole : (l.done ≡ 0) ⊎ ((l.done ≡ length l.bytes) ⊎ ((l.at + l.done) % 4 ≡ 0));
  so_far : (said : Said) → OutlinesImage l.image said l.outline
      → FrontAppended (ArePieceLines (λ _. []) l.image said l.at l.bytes)
      (ArePieceLines (λ _. []) l.image said (l.at + l.done) (drop l.done l.bytes)) l.initial.text.items l.text.items;
}

abbrev pub decreases-loop-done : goal.decreases-loop-done
decreases-loop-done l = length l.bytes - l.done
