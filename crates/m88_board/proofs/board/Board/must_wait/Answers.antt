-- It waits where both hold.
use Rattle.std.proofs.Common.{◌∙◌}
use Rattle.m88_isa.specs.Held.{is_pending}
use Rattle.m88_isa.specs.Operands.{waits_for_empty}
use Rattle.m88_board.proofs.Issuing.{waits_by, waits_not}
use Rattle.m88_board.proofs.board.Board.must_wait.Goals as goal

pub returns-then-waits_for_empty : goal.returns-then-waits_for_empty
returns-then-waits_for_empty c =
    c.is_pending.ensures
    ∙ waits_by (is_pending c.args.self.now.pending) (waits_for_empty c.args.instr.now) c.waits_for_empty.result
    c.waits_for_empty.ensures.value c.if-waits_for_empty.true

pub returns-else-waits_for_empty : goal.returns-else-waits_for_empty
returns-else-waits_for_empty c =
    c.if-waits_for_empty.false
    ∙ waits_not (is_pending c.args.self.now.pending) (waits_for_empty c.args.instr.now) c.waits_for_empty.result
    c.waits_for_empty.ensures.value c.if-waits_for_empty.false
