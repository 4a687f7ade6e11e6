-- What is pending counts as done, and a register that waits is 0.
use Rattle.std.proofs.Common.{ap, not, ◌∙◌}
use Rattle.m88_ctrl.specs.ControlRegisters.{mxm_of}
use Rattle.m88_board.proofs.Handing.{found_is, handed, seen_handed}
use Rattle.m88_board.specs.Parts.{seen_at}
use Rattle.m88_board.proofs.board.Board.into_fault.Goals as goal

pub returns-clause-found : goal.returns-clause-found
returns-clause-found c = λ r low.
    c.take_apart-parts.ensures.found r low ∙ found_is c.args.self r c.take_apart-parts.ensures.kept

pub returns-clause-seen : goal.returns-clause-seen
returns-clause-seen c =
    let b = c.args.self in
    ap (seen_at (mxm_of b.control) (not b.slots.nip.v))
    (handed b c.take_apart-parts.result c.from-pending.result c.push.new.self c.pipe-fault.result c.take_apart-parts.ensures.parts
    (c.from-pending.ensures ∙ c.pending.ensures.value) c.in_ok-push.ensures.ok)
    ∙ seen_handed b c.take_apart-parts.result.regs c.pipe-fault.result c.take_apart-parts.ensures.kept c.requires.fault
