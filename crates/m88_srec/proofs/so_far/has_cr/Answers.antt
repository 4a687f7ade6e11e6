-- A line without a byte, and one by its last.
use Rattle.m88_srec.proofs.Whole.{alone_empty, alone_other}
use Rattle.m88_srec.proofs.so_far.has_cr.Goals as goal

pub returns-in-Some : goal.returns-in-Some
returns-in-Some c = λ other.
    alone_other c.args.line.now c.in-Some.field-0-1.now c.in-Some.last.now c.in-Some.ensures.cases.0 other

pub returns-in-None : goal.returns-in-None
returns-in-None c = λ _. alone_empty c.args.line.now c.in-None.ensures.cases
