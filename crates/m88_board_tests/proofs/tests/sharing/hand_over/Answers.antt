-- A context that was just made stands for the opening moment of the program of its image.
use Rattle.std.specs.Prelude.{[]}
use Rattle.m88_event.specs.Timeline.{Moment, Run}
use Rattle.m88_board.specs.Contexts.{StandsFor, StandsForSome}
use Rattle.m88_board.specs.declared.context.Context.{Context}
use Rattle.m88_board_tests.proofs.tests.sharing.hand_over.Goals as goal

stands_by : (r : Run) (m : Moment) (context : Context) → StandsFor r m context → StandsForSome context
stands_by r m context it = (r, m, it)

pub interrupt-requires-clause-stands : goal.interrupt-requires-clause-stands
interrupt-requires-clause-stands c =
    let p = c.in_ok-context.ensures.program in
    stands_by _ _ _ (c.in_ok-context.ensures.stands p.0 [] p.1 p.2)
