-- What the monitor does at a trap.
use Rattle.std.proofs.Common.{ap}
use Rattle.m88_event.specs.declared.happened.End.TheVariants.{Exit, Vector}
use Rattle.m88_isa.specs.Machine.{by_vector, exits}
use Rattle.m88_board.proofs.Brought.{comes_by}
use Rattle.m88_board.proofs.Choosing.{at_pc, nothing_waits, trap_choice}
use Rattle.m88_board.specs.Board.{BoardView, pc_of}
use Rattle.m88_board.proofs.board.Board.trap.Goals as goal

pub service-requires-clause-r2 : goal.service-requires-clause-r2
service-requires-clause-r2 c =
    let empty = rw (← c.self.view_is) at c.requires.empty in
    nothing_waits c.self.inside.dunit c.self.inside.regs c.self.inside.memory 2 c.self.invariant.parts empty

pub service-requires-clause-r9 : goal.service-requires-clause-r9
service-requires-clause-r9 c =
    let empty = rw (← c.self.view_is) at c.requires.empty in
    nothing_waits c.self.inside.dunit c.self.inside.regs c.self.inside.memory 9 c.self.invariant.parts empty

pub put_out-requires-clause-comes : goal.put_out-requires-clause-comes
put_out-requires-clause-comes c =
    let old = c.args.self.now in
    comes_by _ _ old c.requires.comes
    (trap_choice c.args.vector (pc_of old.slots) c.self.inside.regs.numbers old.file.numbers c.service.result _ c.service.ensures
    (ap (λ (b : BoardView). b.file.numbers) c.self.view_is) c.in-Out.is)

pub finish-requires-clause-ends : goal.finish-requires-clause-ends
finish-requires-clause-ends c =
    let old = c.args.self.now in
    record {
      stop = exits (pc_of old.slots);
      ends_by = ap (λ a. Exit a)
          (at_pc c.self.inside.iunit old.slots c.candidate-at.result c.candidate-at.ensures.value
          (ap (λ (b : BoardView). b.slots) c.self.view_is) c.requires.next.due.valid);
      comes = comes_by _ _ old c.requires.comes
          (trap_choice c.args.vector (pc_of old.slots) c.self.inside.regs.numbers old.file.numbers c.service.result _ c.service.ensures
          (ap (λ (b : BoardView). b.file.numbers) c.self.view_is) c.in-End.is);
      empty = c.requires.empty;
      is_end = tt;
    }

pub finish-requires-in-Unserved-clause-ends : goal.finish-requires-in-Unserved-clause-ends
finish-requires-in-Unserved-clause-ends c =
    let old = c.args.self.now in
    record {
      stop = by_vector c.args.vector (pc_of old.slots);
      ends_by = ap (λ a. Vector c.args.vector a)
          (at_pc c.self.inside.iunit old.slots c.candidate-at.result c.candidate-at.ensures.value
          (ap (λ (b : BoardView). b.slots) c.self.view_is) c.requires.next.due.valid);
      comes = comes_by _ _ old c.requires.comes
          (trap_choice c.args.vector (pc_of old.slots) c.self.inside.regs.numbers old.file.numbers c.service.result _ c.service.ensures
          (ap (λ (b : BoardView). b.file.numbers) c.self.view_is) c.in-Unserved.is);
      empty = c.requires.empty;
      is_end = tt;
    }
