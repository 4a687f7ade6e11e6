-- The board's program is over only where every program is.
use Rattle.std.proofs.Common.{◌∙◌, ap, sym, subst}
use Rattle.m88_board.specs.Board.{BoardView, local_of}
use Rattle.m88_event.specs.Local.{is_over_by}
use Rattle.m88_tasks.proofs.Running.{over_view}
use Rattle.m88_tasks.specs.Tasks.{IsTasksAt}
use Rattle.m88_tasks.proofs.tasks.Tasks.is_over.Goals as goal

pub returns-clause-moment : goal.returns-clause-moment
returns-clause-moment c = λ g s at.
    c.is_over.ensures.value ∙ ap (λ (b : BoardView). is_over_by b.limit (local_of b)) c.board.ensures
    ∙ over_view g s (record { programs = c.self.inside.programs; events = c.self.inside.events; switches = c.self.inside.switches.items })
    (subst (IsTasksAt g s) (sym c.self.view_is) at)
