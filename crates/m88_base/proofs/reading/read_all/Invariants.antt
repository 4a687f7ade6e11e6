use Rattle.std.proofs.Common.{◌≡◌, ◌≤◌, vec_len}
use Rattle.std.specs.Io.KnownBytes.{Consumes}
use Rattle.m88_base.specs.Calls.{CallsWithin}
use Rattle.m88_base.proofs.reading.read_all.Given as goal

-- each turn took a byte, and all bytes that were taken are kept
abbrev pub invariant-loop : goal.invariant-loop
invariant-loop g l = record {
  short : vec_len l.bytes ≤ l.max;
  turns : l.counter ≤ vec_len l.bytes;
  grows : g.S.Source.faults l.source ≡ g.S.Source.faults l.initial.source;
  calls : CallsWithin l.counter (g.S.Source.calls l.initial.source) (g.S.Source.calls l.source);
  taken : Consumes (g.S.Source.left l.initial.source) (g.S.Source.left l.source) l.bytes.items;
}
