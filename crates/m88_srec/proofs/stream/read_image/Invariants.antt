-- Each turn took a byte, and what was taken was fed.
use Rattle.std.proofs.Common.{◌≡◌, ◌≤◌}
use Rattle.m88_base.specs.Calls.{CallsWithin}
use Rattle.m88_srec.proofs.Streamed.{TakenAndFed}
use Rattle.m88_srec.proofs.stream.read_image.Given as goal

abbrev pub invariant-loop : goal.invariant-loop
invariant-loop g l = record {
  short : l.taken ≤ l.max;
  turns : l.counter ≤ l.taken;
  grows : g.S.Source.faults l.source ≡ g.S.Source.faults l.initial.source;
  calls : CallsWithin l.counter (g.S.Source.calls l.initial.source) (g.S.Source.calls l.source);
  total : l.loader.total ≡ l.taken;
  took : TakenAndFed (g.S.Source.left l.initial.source) (g.S.Source.left l.source) l.taken l.loader;
}
