-- What the outline of the instruction tells is carried out, or it waits.
use Rattle.std.proofs.Common.{◌∙◌, sym}
use Rattle.m88_event.specs.Choice.{holds, turn_choice}
use Rattle.m88_isa.specs.Held.{sync}
use Rattle.m88_isa.specs.Machine.{by_vector, trapped}
use Rattle.m88_isa.specs.Monitor.{service_of}
use Rattle.m88_board.proofs.Brought.{comes_by, held_brings, stopping_issues_none, tells_none, trap_issues_none}
use Rattle.m88_board.proofs.Issuing.{nothing_pending, raise_is, raising, trap_held, trap_is, trap_turn}
use Rattle.m88_board.specs.Board.{pc_of}
use Rattle.m88_board.specs.Inside.Turns.{stopping}
use Rattle.m88_board.proofs.board.Board.carry_out.Goals as goal

pub raise-requires-clause-comes : goal.raise-requires-clause-comes
raise-requires-clause-comes c =
    comes_by _ _ c.args.self.now c.requires.turn.comes
    (raising c.args.instr.now c.args.self.now c.in-Raise.vector c.requires.free
    (raise_is _ c.in-Raise.vector c.in-Raise.ensures.means))

pub returns-in-Raise-clause-tells : goal.returns-in-Raise-clause-tells
returns-in-Raise-clause-tells c =
    let b = c.args.self.now in
    let stop = by_vector c.in-Raise.vector (pc_of b.slots) in
    tells_none (stopping stop b.pending) b c.args.told.now
    (comes_by _ _ b c.requires.turn.comes
    (raising c.args.instr.now b c.in-Raise.vector c.requires.free
    (raise_is _ c.in-Raise.vector c.in-Raise.ensures.means)))
    (stopping_issues_none stop b.pending)

pub returns-then-is_pending-clause-brings : goal.returns-then-is_pending-clause-brings
returns-then-is_pending-clause-brings c =
    let b = c.args.self.now in
    held_brings sync b (comes_by _ _ b c.requires.turn.comes
    (trap_held c.args.instr.now b c.in-Trap.vector c.requires.free
    (trap_is _ c.in-Trap.vector c.in-Trap.ensures.means)
    (sym c.is_pending.ensures ∙ c.if-is_pending.true)))

pub returns-then-is_pending-clause-tells : goal.returns-then-is_pending-clause-tells
returns-then-is_pending-clause-tells c =
    let b = c.args.self.now in
    tells_none (holds sync) b c.args.told.now (comes_by _ _ b c.requires.turn.comes
    (trap_held c.args.instr.now b c.in-Trap.vector c.requires.free
    (trap_is _ c.in-Trap.vector c.in-Trap.ensures.means)
    (sym c.is_pending.ensures ∙ c.if-is_pending.true))) (λ change issued. absurd cc)

pub trap-requires-clause-empty : goal.trap-requires-clause-empty
trap-requires-clause-empty c = nothing_pending c.args.self.now.pending (sym c.is_pending.ensures ∙ c.if-is_pending.false)

pub trap-requires-clause-comes : goal.trap-requires-clause-comes
trap-requires-clause-comes c =
    comes_by _ _ c.args.self.now c.requires.turn.comes
    (trap_turn c.args.instr.now c.args.self.now c.in-Trap.vector c.requires.free
    (trap_is _ c.in-Trap.vector c.in-Trap.ensures.means)
    (nothing_pending c.args.self.now.pending (sym c.is_pending.ensures ∙ c.if-is_pending.false)))

pub returns-else-is_pending-clause-tells : goal.returns-else-is_pending-clause-tells
returns-else-is_pending-clause-tells c =
    let b = c.args.self.now in
    tells_none (turn_choice (trapped c.in-Trap.vector b.file.numbers (pc_of b.slots))) b c.args.told.now
    (comes_by _ _ b c.requires.turn.comes
    (trap_turn c.args.instr.now b c.in-Trap.vector c.requires.free
    (trap_is _ c.in-Trap.vector c.in-Trap.ensures.means)
    (nothing_pending b.pending (sym c.is_pending.ensures ∙ c.if-is_pending.false))))
    (trap_issues_none (service_of c.in-Trap.vector b.file.numbers) c.in-Trap.vector (pc_of b.slots))
