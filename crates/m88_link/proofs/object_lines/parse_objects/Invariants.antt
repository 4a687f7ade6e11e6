-- The lines that are left come to what all lines come to.
use Rattle.std.proofs.Common.{◌≡◌, ◌+◌, ◌≤◌, length}
use Rattle.m88_link.specs.Inside.Drafts.{nothing_read, read_from}
use Rattle.m88_link.specs.ObjectRead.{ended_lines}
use Rattle.m88_link.proofs.object_lines.parse_objects.Given as goal

abbrev pub invariant-loop-rest : goal.invariant-loop-rest
invariant-loop-rest l = record {
  same : read_from l.number l.progress (ended_lines l.rest) ≡ read_from 1 nothing_read (ended_lines l.text);
  small : l.number + length l.rest ≤ 1 + length l.text;
}

abbrev pub decreases-loop-rest : goal.decreases-loop-rest
decreases-loop-rest l = length l.rest
