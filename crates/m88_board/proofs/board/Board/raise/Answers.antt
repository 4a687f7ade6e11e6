-- It waits, or the program ends.
use Rattle.std.proofs.Common.{◌∙◌, ap, sym}
use Rattle.m88_board.specs.Board.{BoardView, pc_of}
use Rattle.m88_event.specs.declared.happened.End.TheVariants.{Vector}
use Rattle.m88_isa.specs.Held.{sync}
use Rattle.m88_isa.specs.Machine.{by_vector}
use Rattle.m88_board.proofs.Brought.{comes_by, held_brings}
use Rattle.m88_board.proofs.Choosing.{at_pc, none_pending, stopping_ends, stopping_waits}
use Rattle.m88_board.proofs.board.Board.raise.Goals as goal

pub returns-then-is_pending : goal.returns-then-is_pending
returns-then-is_pending c =
    let b = c.args.self.now in
    held_brings sync b (comes_by _ _ b c.requires.comes
    (stopping_waits (by_vector c.args.vector (pc_of b.slots)) b.pending (sym c.is_pending.ensures ∙ c.if-is_pending.true)))

pub finish-requires-clause-ends : goal.finish-requires-clause-ends
finish-requires-clause-ends c =
    let b = c.args.self.now in
    let stop = by_vector c.args.vector (pc_of b.slots) in
    let empty = none_pending b.pending (sym c.is_pending.ensures ∙ c.if-is_pending.false) in
    record {
      stop = stop;
      ends_by = ap (λ a. Vector c.args.vector a)
          (at_pc c.self.inside.iunit b.slots c.candidate-at.result c.candidate-at.ensures.value
          (ap (λ (b : BoardView). b.slots) c.self.view_is) c.requires.due.valid);
      comes = comes_by _ _ b c.requires.comes (stopping_ends stop b.pending empty);
      empty = empty;
      is_end = tt;
    }
