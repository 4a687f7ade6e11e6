-- The parts show what the instruction needs.
use Rattle.std.proofs.Common.{◌∙◌, ap, subst, sym}
use Rattle.m88_base.specs.declared.slot.Slot.{Slot}
use Rattle.m88_isa.specs.Effect.{plan_for}
use Rattle.m88_board.proofs.Issuing.{meant, shown_by}
use Rattle.m88_board.proofs.OnePage.{one_page}
use Rattle.m88_board.specs.Inside.Turns.{IsPlanOf, PlansOnePage}
use Rattle.m88_board.specs.contracts.board.Board.{the_view}
use Rattle.m88_board.proofs.board.Board.outline_next.Goals as goal

pub returns : goal.returns
returns c =
    let shown = shown_by c.outline.result (the_view c.self.inside) c.args.self.now c.numbers.result.now c.carry.result
    c.following.result.addr c.self.view_is c.numbers.ensures c.carry.ensures (ap (λ (s : Slot). s.addr) c.following.ensures.value) in
    let means = ap plan_for (meant c.args.instr.now (the_view c.self.inside) c.args.self.now c.numbers.result.now c.carry.result c.mxm.result
    c.candidate.result.addr c.following.result.addr c.self.view_is c.self.invariant c.requires.turn.next.due.valid c.requires.free
    c.numbers.ensures c.carry.ensures c.mxm.ensures (ap (λ (s : Slot). s.addr) c.candidate.ensures.value)
    (ap (λ (s : Slot). s.addr) c.following.ensures.value)) in
    subst (λ plan. IsPlanOf c.args.instr.now plan c.args.self.now) (sym shown) (record {
      means = c.outline.ensures.value ∙ means;
      made = c.outline.ensures.accesses;
      written = c.outline.ensures.register;
      trap = c.outline.ensures.trap;
      raise = c.outline.ensures.raise;
      flow = c.outline.ensures.flow c.candidate.ensures.word c.following.ensures.word;
      page = subst PlansOnePage (sym c.outline.ensures.value)
          (one_page c.args.instr.now c.numbers.result.now c.carry.result c.mxm.result c.candidate.result.addr c.following.result.addr);
    })
