-- The outline of the instruction tells the vector.
use Rattle.m88_board.proofs.Brought.{comes_by}
use Rattle.m88_board.proofs.Handing.{going_takes_none, none_busy, raise_taken, trap_taken}
use Rattle.m88_board.proofs.Issuing.{raise_is, raising, trap_is, trap_turn}
use Rattle.m88_board.proofs.board.Board.vector_in_turn.Goals as goal

pub outline_next-requires-clause-free : goal.outline_next-requires-clause-free
outline_next-requires-clause-free c = none_busy c.args.instr.now c.args.self.now.pending c.requires.empty

pub returns-in-Raise : goal.returns-in-Raise
returns-in-Raise c =
    let b = c.args.self.now in
    raise_taken b c.in-Raise.vector c.requires.empty
    (comes_by _ _ b c.requires.turn.comes
    (raising c.args.instr.now b c.in-Raise.vector (none_busy c.args.instr.now b.pending c.requires.empty)
    (raise_is _ c.in-Raise.vector c.in-Raise.ensures.means)))

pub returns-in-Trap : goal.returns-in-Trap
returns-in-Trap c =
    let b = c.args.self.now in
    trap_taken b c.in-Trap.vector
    (comes_by _ _ b c.requires.turn.comes
    (trap_turn c.args.instr.now b c.in-Trap.vector (none_busy c.args.instr.now b.pending c.requires.empty)
    (trap_is _ c.in-Trap.vector c.in-Trap.ensures.means) c.requires.empty))

pub returns-in-Next : goal.returns-in-Next
returns-in-Next c = going_takes_none c.args.instr.now c.args.self.now _ c.requires.turn.comes c.in-Next.ensures.means

pub returns-in-Flow : goal.returns-in-Flow
returns-in-Flow c = going_takes_none c.args.instr.now c.args.self.now _ c.requires.turn.comes c.in-Flow.ensures.means

pub returns-in-Memory : goal.returns-in-Memory
returns-in-Memory c = going_takes_none c.args.instr.now c.args.self.now _ c.requires.turn.comes c.in-Memory.ensures.means
