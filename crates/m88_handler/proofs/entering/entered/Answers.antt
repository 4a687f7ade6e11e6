-- A handler as it is entered, part by part.
use Rattle.std.proofs.Common.{◌∙◌, false}
use Rattle.m88_handler.proofs.Opened.{own_bus}
use Rattle.m88_handler.specs.Entering.{entering}
use Rattle.m88_handler.specs.Handled.{handling_of}
use Rattle.m88_handler.proofs.entering.entered.Goals as goal

pub returns-clause-state : goal.returns-clause-state
unfolding handling_of entering
returns-clause-state c = λ p of. λ i. record {
  regs = c.found.ensures i;
  pc = 24;
  next = 28;
  control = c.control_left.ensures i;
  own = (c.in_ok-own.ensures.bus ∙ own_bus p c.args.code.now of) i;
  console = c.new-3.ensures.items i;
  stopped = false;
  steps = 0;
  user = c.in_ok-user.ensures.bus i;
  absent = c.in_ok-user.ensures.absent i;
}
