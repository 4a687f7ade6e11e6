-- What came of the handler is judged.
use Rattle.std.proofs.Common.{ap, subst, sym}
use Rattle.m88_base.specs.Image.{ProgramImage}
use Rattle.m88_isa.specs.ImageProgram.{IsProgramOf}
use Rattle.m88_handler.proofs.Entries.{entry_by}
use Rattle.m88_handler.specs.Entering.{faulted}
use Rattle.m88_handler.specs.Handled.{handling_of, wanted_of}
use Rattle.m88_mem.specs.DataBus.{image_bus}
use Rattle.m88_handler.proofs.entering.enter.Goals as goal

pub returns-clause-entry : goal.returns-clause-entry
unfolding handling_of
returns-clause-entry c = λ p of.
    entry_by p c.args.most (faulted c.args.fault.now c.args.given.now (image_bus c.args.words.now)) _
    (handling_of c.in_ok-left.left) c.in_ok-course.course (wanted_of c.in_ok-wanted.wanted)
    (c.in_ok-left.ensures.state p of)
    (ap (λ h. h.regs) (c.in_ok-left.ensures.state p of))
    (c.in_ok-course.ensures.course p (subst (λ (image : ProgramImage). IsProgramOf image p) (sym c.in_ok-left.ensures.entered.code) of))
    c.in_ok-wanted.ensures.served
    c.remark_on-remark.ensures
