-- The word is an instruction's, or none has it.
use Rattle.std.proofs.Common.{arith, ap, sym, ◌∙◌}
use Rattle.m88_trace.proofs.Following.{turn_read, turn_unread}
use Rattle.m88_trace.specs.Inside.Doings.{doing_of}
use Rattle.m88_trace.proofs.doing.doing_at.Goals as goal

pub returns-in-Ok-clause-value : goal.returns-in-Ok-clause-value
returns-in-Ok-clause-value c = λ image p of fetch.
    c.carried_out.ensures.value
    ∙ ap doing_of (sym (turn_read p image c.args.regs.now c.args.place.carry c.args.place.pc c.args.place.next
    c.in-Some.word c.args.word
    c.in-Ok.instr of c.requires.here (omega arith) c.in-Some.is fetch c.in-Ok.ensures.found
    (λ j is. let read = c.decode.ensures.only j is in let said = c.in-Ok.is in cc)))

pub returns-in-Err-clause-value : goal.returns-in-Err-clause-value
returns-in-Err-clause-value c = λ image p of fetch.
    c.ends-in-Err.ensures
    ∙ ap doing_of (sym (turn_unread p image c.args.regs.now c.args.place.carry c.args.place.pc c.args.place.next
    c.in-Some.word c.args.word of
    c.requires.here (omega arith) c.in-Some.is fetch
    (λ j is. let read = c.in-Err.ensures.only j is in let said = c.in-Err.is in cc)))
