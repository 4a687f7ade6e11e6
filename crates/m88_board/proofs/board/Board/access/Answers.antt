-- The instruction is issued with its accesses, or it waits, or memory ran out before.
use Rattle.std.proofs.Common.{ℕ, ◌∙◌, ap, arith, refl, rules, sym}
use Rattle.std.proofs.lemmas.Result.{err_from_is_err_and}
use Rattle.std.specs.Prelude.{Option}
use Rattle.m88_base.specs.declared.reg.Reg.{Reg}
use Rattle.m88_base.specs.declared.slot.Slot.{Slot}
use Rattle.m88_event.specs.Choice.{issues}
use Rattle.m88_event.specs.declared.letter.Letter.TheVariants.{Issue}
use Rattle.m88_isa.specs.Held.{full, sync}
use Rattle.m88_isa.specs.Machine.{with_written}
use Rattle.m88_mem.specs.DataBus.{MemoryView}
use Rattle.m88_board.proofs.Brought.{brought, comes_by, held_brings, issued_with, tells_planned}
use Rattle.m88_board.proofs.Issued.{issued_by, kept_issued, status_same}
use Rattle.m88_board.proofs.Issuing.{go_full, go_sync, room_of, stays_apart}
use Rattle.m88_board.proofs.Planned.{can_of, going_of, words_of}
use Rattle.m88_board.specs.contracts.board.Board.{the_view}
use Rattle.m88_board.specs.declared.brief.Brief.TheVariants.{Issued}
use Rattle.m88_board.proofs.board.Board.access.Goals as goal

pub returns-then-effect-room-clause-brings : goal.returns-then-effect-room-clause-brings
returns-then-effect-room-clause-brings c =
    let b = c.args.self.now in
    let going = going_of c.args.instr.now c.effect_at-effect.result b c.effect_at-effect.ensures.planned in
    let room = room_of (the_view c.self.inside) b c.room.result c.self.view_is c.room.ensures in
    let more = c.if-effect-room.true in
    held_brings full b (comes_by _ _ b c.requires.turn.comes
    (go_full c.args.instr.now b c.effect_at-effect.result going (omega (arith, room, more))))

pub returns-then-effect-room-clause-tells : goal.returns-then-effect-room-clause-tells
returns-then-effect-room-clause-tells c =
    tells_planned c.args.instr.now c.effect_at-effect.result c.args.self.now c.args.told.now c.tell.new.self
    c.effect_at-effect.ensures.planned c.requires.turn.comes c.tell.ensures.plan
    (c.tell.ensures.made (words_of c.args.instr.now c.effect_at-effect.result c.args.self.now c.effect_at-effect.ensures.planned))

pub returns-then-must_wait-clause-brings : goal.returns-then-must_wait-clause-brings
returns-then-must_wait-clause-brings c =
    let b = c.args.self.now in
    let going = going_of c.args.instr.now c.effect_at-effect.result b c.effect_at-effect.ensures.planned in
    let room = room_of (the_view c.self.inside) b c.room.result c.self.view_is c.room.ensures in
    let fits = c.if-effect-room.false in
    held_brings sync b (comes_by _ _ b c.requires.turn.comes
    (go_sync c.args.instr.now b c.effect_at-effect.result going (omega (arith, room, fits))
    (sym c.must_wait.ensures ∙ c.if-must_wait.true)))

pub returns-then-must_wait-clause-tells : goal.returns-then-must_wait-clause-tells
returns-then-must_wait-clause-tells c =
    tells_planned c.args.instr.now c.effect_at-effect.result c.args.self.now c.args.told.now c.tell.new.self
    c.effect_at-effect.ensures.planned c.requires.turn.comes c.tell.ensures.plan
    (c.tell.ensures.made (words_of c.args.instr.now c.effect_at-effect.result c.args.self.now c.effect_at-effect.ensures.planned))

pub prepare-requires : goal.prepare-requires
prepare-requires c = c.effect_at-effect.ensures.planned.page

pub returns-in_err-prepare-clause-brings : goal.returns-in_err-prepare-clause-brings
returns-in_err-prepare-clause-brings c =
    let p = err_from_is_err_and c.from_residual.result c.from_residual.ensures.1 in
    rw (p.1, ← c.self.view_is)
    (ap (λ (memory : MemoryView). record (the_view c.self.inside) { memory = memory }) c.in_err-prepare.ensures.err)

pub returns-in_err-prepare-clause-tells : goal.returns-in_err-prepare-clause-tells
returns-in_err-prepare-clause-tells c =
    tells_planned c.args.instr.now c.effect_at-effect.result c.args.self.now c.args.told.now c.tell.new.self
    c.effect_at-effect.ensures.planned c.requires.turn.comes c.tell.ensures.plan
    (c.tell.ensures.made (words_of c.args.instr.now c.effect_at-effect.result c.args.self.now c.effect_at-effect.ensures.planned))

pub put_in-requires-clause-can : goal.put_in-requires-clause-can
put_in-requires-clause-can c =
    can_of c.args.instr.now c.effect_at-effect.result c.args.self.now c.effect_at-effect.ensures.planned

pub put_in-requires-clause-room : goal.put_in-requires-clause-room
put_in-requires-clause-room c =
    let room = c.room.ensures in
    let fits = c.if-effect-room.false in
    omega (arith, room, fits)

pub advance-requires-clause-flow : goal.advance-requires-clause-flow
advance-requires-clause-flow c = c.effect_at-effect.ensures.planned.flow

pub invariant_of-self-2 : goal.invariant_of-self-2
invariant_of-self-2 c =
    let b = the_view c.self.inside in
    let i = c.args.instr.now in
    let effect = c.effect_at-effect.result in
    let next = rw (← c.self.view_is) at c.requires.turn.next in
    let planned = rw (← c.self.view_is) at c.effect_at-effect.ensures.planned in
    let room = c.room.ensures in
    let fits = c.if-effect-room.false in
    kept_issued b effect.accesses c.advance.new.iunit c.put_in.new.unit c.put_in.new.regs
    c.prepare.new.memory b.control c.self.invariant next.due.going (can_of i effect b planned) (omega (arith, room, fits))
    (stays_apart i b effect (going_of i effect b planned) c.self.invariant.parts.apart)
    c.put_in.ensures.pending c.put_in.ensures.waiting c.prepare.ensures.only.ready (search rules) c.advance.ensures.slots
    (ap (λ (a : Slot). a.v) c.advance.ensures.advanced.xip) c.prepare.ensures.only.image
    (status_same b c.self.invariant next.due.going)

pub returns-clause-brings : goal.returns-clause-brings
returns-clause-brings c =
    let old = c.args.self.now in
    let effect = c.effect_at-effect.result in
    let room = room_of (the_view c.self.inside) old c.room.result c.self.view_is c.room.ensures in
    let fits = c.if-effect-room.false in
    let issued = rw (← c.self.view_is) at (issued_with c.args.instr.now effect old c.effect_at-effect.ensures.planned
    c.requires.turn.comes (omega (arith, room, fits)) (sym c.must_wait.ensures ∙ c.if-must_wait.false)) in
    let carry = rw (← c.self.view_is) at c.effect_at-effect.ensures.carry in
    let b = the_view c.self.inside in
    rw (← c.self.view_is)
    (brought Issue (issues issued.change) b Issued _ issued.comes
    (λ fault. record {
      says = refl;
      does = issued_by fault issued.change effect b c.advance.new.iunit c.put_in.new.unit c.put_in.new.regs
          c.prepare.new.memory b.control issued.same issued.few issued.free c.advance.ensures.advanced c.put_in.ensures.pending
          (c.put_in.ensures.numbers
          ∙ ap (λ (w : Option (Reg × ℕ)). with_written w b.file.numbers) (sym c.effect_at-effect.ensures.reg))
          c.prepare.ensures.only.bus c.prepare.ensures.only.absent c.prepare.ensures.only.image
          (sym carry) refl;
    })
    (λ still. absurd still) refl)

pub returns-clause-tells : goal.returns-clause-tells
returns-clause-tells c =
    tells_planned c.args.instr.now c.effect_at-effect.result c.args.self.now c.args.told.now c.tell.new.self
    c.effect_at-effect.ensures.planned c.requires.turn.comes c.tell.ensures.plan
    (c.tell.ensures.made (words_of c.args.instr.now c.effect_at-effect.result c.args.self.now c.effect_at-effect.ensures.planned))
