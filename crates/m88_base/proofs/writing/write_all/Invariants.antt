use Rattle.std.proofs.Common.{length, ◌-◌, ◌≡◌, ◌≤◌, take}
use Rattle.std.specs.Io.KnownBytes.{Appends}
use Rattle.m88_base.specs.Calls.{CallsWithin}
use Rattle.m88_base.proofs.writing.write_all.Given as goal

abbrev pub invariant-loop-written : goal.invariant-loop-written
invariant-loop-written g l = record {
  short : l.written ≤ length l.bytes;
  grows : g.K.Sink.faults l.sink ≡ g.K.Sink.faults l.initial.sink;
  calls : CallsWithin l.written (g.K.Sink.calls l.initial.sink) (g.K.Sink.calls l.sink);
  given : Appends (g.K.Sink.held l.initial.sink) (g.K.Sink.held l.sink) (take l.written l.bytes);
}

abbrev pub decreases-loop-written : goal.decreases-loop-written
decreases-loop-written g l = length l.bytes - l.written
