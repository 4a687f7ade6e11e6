-- The lines of the bytes so far are there, at most a line's bytes for each.
use Rattle.std.proofs.Common.{◌+◌, ◌*◌, ◌≤◌, ◌-◌, length}
use Rattle.m88_disasm.specs.Inside.Appended.{BytesAppended}
use Rattle.m88_disasm.specs.declared.lister.TheConstants.{MOST_LINE}
use Rattle.m88_disasm.proofs.lister.push_bytes.Given as goal

abbrev pub invariant-loop-done : goal.invariant-loop-done
invariant-loop-done l = record {
  within : l.done ≤ length l.bytes;
  so_far : BytesAppended l.at l.bytes l.initial.text.items l.text.items l.done;
  room : length l.text.items ≤ length l.initial.text.items + MOST_LINE * l.done;
}

abbrev pub decreases-loop-done : goal.decreases-loop-done
decreases-loop-done l = length l.bytes - l.done
