-- A context is what is taken apart of a board before its first event.
use Rattle.std.specs.Prelude.{[]}
use Rattle.std.proofs.Common.{ap, sym}
use Rattle.m88_event.specs.Timeline.{opening_moment, run_with}
use Rattle.m88_mem.specs.Marks.{absent_in}
use Rattle.m88_board.proofs.Suspending.{empty_at_first}
use Rattle.m88_board.proofs.context.Context.new.Goals as goal

pub into_context-requires : goal.into_context-requires
into_context-requires c =
    let some = c.in_ok-board.ensures.program in
    empty_at_first (run_with some.0 (absent_in c.args.absent.now) c.args.limit []) c.in_ok-board.board
    (c.in_ok-board.ensures.at some.0 [] some.1 some.2)

pub returns-clause-stands : goal.returns-clause-stands
returns-clause-stands c = λ p schedule of mode.
    c.into_context.ensures.stands (run_with p (absent_in c.args.absent.now) c.args.limit schedule) opening_moment
    (ap absent_in (sym c.in_ok-board.ensures.named)) (c.in_ok-board.ensures.at p schedule of mode)
