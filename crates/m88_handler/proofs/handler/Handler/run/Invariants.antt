-- What comes of so many instructions is what comes of those that are left, behind those that are done.
use Rattle.std.proofs.Common.{◌≡◌, ◌+◌, ◌-◌, ◌%◌, ◌^◌, ◌<◌}
use Rattle.m88_isa.specs.ImageProgram.{IsProgramOf}
use Rattle.m88_isa.specs.Machine.{Program}
use Rattle.m88_handler.specs.Handled.{base_of, code_of, handling_of}
use Rattle.m88_handler.specs.Machine.{handled_by}
use Rattle.m88_handler.proofs.handler.Handler.run.Given as goal

abbrev pub invariant-loop-done : goal.invariant-loop-done
invariant-loop-done l = record {
  here : l.self.pc % 4 ≡ 0;
  behind : l.self.next % 4 ≡ 0;
  room : l.self.steps + (l.most - l._done) < 2 ^ 32 - 1;
  code : code_of l.self ≡ code_of l.fn.self;
  base : base_of l.self ≡ base_of l.fn.self;
  same : (p : Program) → IsProgramOf (code_of l.fn.self) p
      → handled_by p (l.most - l._done) (handling_of l.self) ≡ handled_by p l.most (handling_of l.fn.self);
}
