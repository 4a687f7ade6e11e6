-- The lines of the bytes so far are there, for each image of the outline.
use Rattle.std.proofs.Common.{◌+◌, ◌-◌, ◌≤◌, drop, length}
use Rattle.m88_base.specs.Image.{ProgramImage}
use Rattle.m88_sourcing.specs.Inside.Appended.{FrontAppended}
use Rattle.m88_sourcing.specs.Inside.Members.{OutlinesImage}
use Rattle.m88_sourcing.specs.Said.{Said}
use Rattle.m88_sourcing.specs.Source.{AreLooseLines}
use Rattle.m88_sourcing.proofs.loose.push_loose.Given as goal

abbrev pub invariant-loop-done : goal.invariant-loop-done
invariant-loop-done l = record {
  within : l.done ≤ length l.bytes;
  so_far : (image : ProgramImage) (said : Said) → OutlinesImage image said l.outline
      → FrontAppended (AreLooseLines image said l.at l.bytes)
      (AreLooseLines image said (l.at + l.done) (drop l.done l.bytes)) l.initial.text.items l.text.items;
}

abbrev pub decreases-loop-done : goal.decreases-loop-done
decreases-loop-done l = length l.bytes - l.done
