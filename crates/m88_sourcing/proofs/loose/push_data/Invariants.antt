-- The lines of the bytes so far are there.
use Rattle.std.proofs.Common.{◌≡◌, ◌+◌, ◌-◌, ◌≤◌, drop, length}
use Rattle.m88_sourcing.specs.Data.{AreDataLines}
use Rattle.m88_sourcing.specs.Inside.Appended.{FrontAppended}
use Rattle.m88_sourcing.specs.Inside.Finding.{IsFinding}
use Rattle.m88_sourcing.proofs.loose.push_data.Given as goal

abbrev pub invariant-loop-done : goal.invariant-loop-done
invariant-loop-done l = record {
  within : l.done ≤ length l.bytes;
  finding : IsFinding l.finding;
  at : l.finding.at ≡ l.at;
  bytes : l.finding.bytes.now ≡ l.bytes;
  so_far : FrontAppended (AreDataLines l.at l.bytes) (AreDataLines (l.at + l.done) (drop l.done l.bytes))
      l.initial.text.items l.text.items;
}

abbrev pub decreases-loop-done : goal.decreases-loop-done
decreases-loop-done l = length l.bytes - l.done
