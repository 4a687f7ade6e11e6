-- The instruction that is kept, and that of the word that was fetched.
use Rattle.std.proofs.Common.{sym}
use Rattle.m88_handler.proofs.Fetched.{found_line, found_there}
use Rattle.m88_handler.proofs.machine.instruction_at.Goals as goal

pub returns-in-Some-clause-found : goal.returns-in-Some-clause-found
returns-in-Some-clause-found c = λ p of.
    found_line p c.args.own.now.image c.args.addr c.in-Some.line of c.in-Some.ensures.0 c.in-Some.ensures.1

pub returns-clause-found : goal.returns-clause-found
returns-clause-found c = λ p of.
    found_there p c.args.own.now.image c.args.addr c.in-Some-fetch.word c.in-Ok.instr of c.requires (sym c.in-Some-fetch.ensures)
    c.in-Ok.ensures.found
