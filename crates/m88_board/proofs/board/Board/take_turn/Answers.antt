-- A register that the instruction uses or writes waits.
use Rattle.std.proofs.Common.{◌≡◌, Some, refl, sym}
use Rattle.m88_base.specs.Reg.{number_of}
use Rattle.m88_event.specs.Choice.{holds}
use Rattle.m88_event.specs.declared.letter.Letter.TheVariants.{Issue}
use Rattle.m88_event.specs.declared.happened.Why.TheVariants.{Busy}
use Rattle.m88_isa.specs.Held.{busy}
use Rattle.m88_board.proofs.Brought.{brought, comes_by, tells_none}
use Rattle.m88_board.proofs.Issuing.{busy_first}
use Rattle.m88_board.specs.Inside.Turns.{choice_for}
use Rattle.m88_board.specs.declared.brief.Brief.TheVariants.{Stalled}
use Rattle.m88_board.proofs.board.Board.take_turn.Goals as goal

pub returns-in-Some-clause-brings : goal.returns-in-Some-clause-brings
returns-in-Some-clause-brings c =
    let b = c.args.self.now in
    brought Issue (choice_for (Some c.args.line.now.instr) b) b (Stalled (Busy c.in-Some.r)) b c.requires.turn.comes
    (λ fault. busy_first c.args.line.now.instr b c.in-Some.r fault c.in-Some.ensures) (λ still. refl) refl

pub returns-in-Some-clause-tells : goal.returns-in-Some-clause-tells
returns-in-Some-clause-tells c =
    let b = c.args.self.now in
    let held : choice_for (Some c.args.line.now.instr) b ≡ holds (busy (number_of c.in-Some.r)) =
    rw (sym c.in-Some.ensures) refl in
    tells_none (holds (busy (number_of c.in-Some.r))) b c.args.told.now (comes_by _ _ b c.requires.turn.comes held)
    (λ change issued. absurd cc)
