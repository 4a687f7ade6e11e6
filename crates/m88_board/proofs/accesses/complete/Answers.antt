-- The oldest transaction is answered as a store or as a load.
use Rattle.m88_isa.specs.Bus.{stored}
use Rattle.m88_board.proofs.Agree.{load_answered, oldest_made, oldest_ready, store_answered, zero_waits_not}
use Rattle.m88_board.proofs.accesses.complete.Goals as goal

pub put_lanes-requires : goal.put_lanes-requires
put_lanes-requires c =
    let made = oldest_made c.args.unit.now c.args.oldest.now c.args.regs.now c.args.memory.now c.requires.oldest c.requires.agree in
    record {
      word = made.0;
      ready = oldest_ready c.args.unit.now c.args.oldest.now c.args.regs.now c.args.memory.now c.requires.oldest c.requires.agree c.if-oldest.true;
      enable = made.1;
    }

pub answer_load-requires-clause-made : goal.answer_load-requires-clause-made
answer_load-requires-clause-made c =
    oldest_made c.args.unit.now c.args.oldest.now c.args.regs.now c.args.memory.now c.requires.oldest c.requires.agree

pub answer_load-requires-clause-zero : goal.answer_load-requires-clause-zero
answer_load-requires-clause-zero c = zero_waits_not c.args.unit.now c.args.regs.now c.args.memory.now c.requires.agree

pub returns-then-oldest : goal.returns-then-oldest
unfolding stored
returns-then-oldest c =
    store_answered c.args.unit.now _ c.args.oldest.now c.args.regs.now c.args.memory.now c.put_lanes.new.self
    c.requires.oldest c.requires.agree c.if-oldest.true c.put_lanes.ensures.bus c.put_lanes.ensures.ready
    c.retire.ensures c.put_lanes.ensures.absent c.put_lanes.ensures.image

pub returns : goal.returns
returns c =
    rw c.answer_load.ensures.stays
    (load_answered c.args.unit.now _ c.args.oldest.now c.args.regs.now c.answer_load.new.regs c.args.memory.now
    c.requires.oldest c.requires.agree c.if-oldest.false c.answer_load.ensures.numbers c.answer_load.ensures.waiting
    c.retire-2.ensures)
