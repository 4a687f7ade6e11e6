-- The instruction is issued, which makes no access, or it waits.
use Rattle.std.proofs.Common.{ℕ, Bool, ◌≡◌, ◌∙◌, ap, false, refl, subst, sym}
use Rattle.std.specs.Prelude.{IfSome}
use Rattle.m88_base.specs.Reg.{number_of}
use Rattle.m88_base.specs.declared.slot.Slot.{Slot}
use Rattle.m88_event.specs.Choice.{issues}
use Rattle.m88_event.specs.declared.letter.Letter.TheVariants.{Issue}
use Rattle.m88_isa.specs.Bus.{LoadApart}
use Rattle.m88_isa.specs.Held.{sync}
use Rattle.m88_mem.specs.DataBus.{ready_of}
use Rattle.m88_board.proofs.Brought.{brought, comes_by, held_brings, issued_with, tells_planned}
use Rattle.m88_board.proofs.Issued.{issued_by, kept_issued, status_changed}
use Rattle.m88_board.proofs.Issuing.{go_sync}
use Rattle.m88_board.proofs.Leaving.{psr_alone}
use Rattle.m88_board.proofs.Planned.{can_make_none, free_of, going_of, none_more, none_ready, room_for_none, words_of}
use Rattle.m88_board.specs.contracts.board.Board.{the_view}
use Rattle.m88_board.specs.declared.brief.Brief.TheVariants.{Issued}
use Rattle.m88_board.proofs.board.Board.change.Goals as goal

pub returns-then-must_wait-clause-brings : goal.returns-then-must_wait-clause-brings
returns-then-must_wait-clause-brings c =
    let b = c.args.self.now in
    held_brings sync b (comes_by _ _ b c.requires.turn.comes
    (go_sync c.args.instr.now b c.args.effect (going_of c.args.instr.now c.args.effect b c.requires.planned)
    (room_for_none b.pending c.args.effect.accesses c.requires.alone c.requires.few)
    (sym c.must_wait.ensures ∙ c.if-must_wait.true)))

pub returns-then-must_wait-clause-tells : goal.returns-then-must_wait-clause-tells
returns-then-must_wait-clause-tells c =
    tells_planned c.args.instr.now c.args.effect c.args.self.now c.args.told.now c.tell.new.self c.requires.planned
    c.requires.turn.comes c.tell.ensures.plan
    (c.tell.ensures.made (words_of c.args.instr.now c.args.effect c.args.self.now c.requires.planned))

pub write-requires : goal.write-requires
write-requires c =
    let free = rw (← c.self.view_is) at (free_of c.args.instr.now c.args.effect c.args.self.now c.requires.planned) in
    subst (λ (waits : ℕ → Bool). IfSome c.args.effect.reg (λ w. waits (number_of w.0) ≡ false))
    (sym c.self.invariant.parts.waiting) free

pub invariant_of-self : goal.invariant_of-self
invariant_of-self c =
    let b = the_view c.self.inside in
    let accesses = c.args.effect.accesses in
    let next = rw (← c.self.view_is) at c.requires.turn.next in
    let more = none_more b.pending accesses c.requires.alone in
    kept_issued b accesses c.advance.new.iunit b.pending c.write.new.regs
    b.memory c.set_carry.new.self c.self.invariant next.due.going (can_make_none accesses c.requires.alone)
    (room_for_none b.pending accesses c.requires.alone c.self.invariant.parts.few)
    (subst LoadApart more c.self.invariant.parts.apart)
    more (c.write.ensures.waiting ∙ c.self.invariant.parts.waiting) (λ page ready. ready)
    (none_ready (ready_of b.memory) accesses c.requires.alone) c.advance.ensures.slots
    (ap (λ (a : Slot). a.v) c.advance.ensures.advanced.xip) refl
    (status_changed b c.set_carry.new.self c.args.effect.carry c.self.invariant next.due.going c.set_carry.ensures.state
    c.set_carry.ensures.carry c.set_carry.ensures.mxm)

pub returns-clause-brings : goal.returns-clause-brings
returns-clause-brings c =
    let old = c.args.self.now in
    let issued = rw (← c.self.view_is) at (issued_with c.args.instr.now c.args.effect old c.requires.planned
    c.requires.turn.comes (room_for_none old.pending c.args.effect.accesses c.requires.alone c.requires.few)
    (sym c.must_wait.ensures ∙ c.if-must_wait.false)) in
    let b = the_view c.self.inside in
    rw (← c.self.view_is)
    (brought Issue (issues issued.change) b Issued _ issued.comes
    (λ fault. record {
      says = refl;
      does = issued_by fault issued.change c.args.effect b c.advance.new.iunit b.pending c.write.new.regs
          b.memory c.set_carry.new.self issued.same issued.few issued.free c.advance.ensures.advanced
          (none_more b.pending c.args.effect.accesses c.requires.alone) c.write.ensures.numbers refl refl refl
          c.set_carry.ensures.carry c.set_carry.ensures.mxm;
    })
    (λ still. absurd still) (psr_alone c.self.inside.ctrl c.set_carry.new.self _ c.set_carry.ensures.state))

pub returns-clause-tells : goal.returns-clause-tells
returns-clause-tells c =
    tells_planned c.args.instr.now c.args.effect c.args.self.now c.args.told.now c.tell.new.self c.requires.planned
    c.requires.turn.comes c.tell.ensures.plan
    (c.tell.ensures.made (words_of c.args.instr.now c.args.effect c.args.self.now c.requires.planned))
