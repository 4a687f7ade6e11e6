-- The accesses are those that the instruction makes of what the registers hold.
use Rattle.std.proofs.Common.{◌∙◌, None, ap, false, sym}
use Rattle.m88_base.specs.declared.slot.Slot.{Slot}
use Rattle.m88_ctrl.specs.ControlRegisters.{carry_of}
use Rattle.m88_isa.specs.Address.{after_bytes}
use Rattle.m88_isa.specs.declared.planned.Accesses.{Accesses}
use Rattle.m88_isa.specs.declared.planned.Outline.TheVariants.{Memory}
use Rattle.m88_isa.specs.declared.planned.Plan.TheVariants.{Go}
use Rattle.m88_board.proofs.Issuing.{shown_by}
use Rattle.m88_board.proofs.Planned.{planned_from}
use Rattle.m88_board.specs.Board.{BoardView}
use Rattle.m88_board.specs.Inside.Turns.{planned_by}
use Rattle.m88_board.specs.contracts.board.Board.{the_view}
use Rattle.m88_board.proofs.board.Board.effect_at.Goals as goal

pub returns-clause-planned : goal.returns-clause-planned
returns-clause-planned c =
    let b = c.args.self.now in
    let memory = Memory c.args.op c.args.d c.args.place in
    let next = c.following-next.result.addr in
    planned_from c.args.instr.now _ b (planned_by memory b)
    (shown_by memory (the_view c.self.inside) b c.numbers.result.now c.carry.result next c.self.view_is c.numbers.ensures
    c.carry.ensures (ap (λ (s : Slot). s.addr) c.following-next.ensures.value)
    ∙ ap (λ (a : Accesses). Go (record {
      reg = None;
      carry = c.carry.result;
      accesses = a;
      after = (next, after_bytes next 4);
      bubble = false;
    })) (sym c.accesses_at.ensures))
    c.requires.turn.instr c.requires.free c.requires.plan

pub returns-clause-carry : goal.returns-clause-carry
returns-clause-carry c = c.carry.ensures ∙ ap (λ (b : BoardView). carry_of b.control) c.self.view_is
