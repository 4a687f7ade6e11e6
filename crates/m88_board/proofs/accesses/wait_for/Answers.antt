-- A load that is issued makes its register wait.
use Rattle.std.proofs.Common.{ap, ◌∙◌, sym, true}
use Rattle.m88_base.specs.Reg.{number_of}
use Rattle.m88_base.specs.RegisterSet.{with_member}
use Rattle.m88_isa.proofs.Laws.{loaded_last, stored_last}
use Rattle.m88_board.proofs.accesses.wait_for.Goals as goal

pub returns-then-access-clause-waiting : goal.returns-then-access-clause-waiting
returns-then-access-clause-waiting c = λ pending same. same ∙ sym (stored_last c.args.access.now pending c.if-access.true)

pub returns-clause-waiting : goal.returns-clause-waiting
returns-clause-waiting c = λ pending same.
    c.mark.ensures.waiting ∙ ap (with_member (number_of c.args.access.now.reg) true) same
    ∙ loaded_last c.args.access.now pending c.if-access.false
