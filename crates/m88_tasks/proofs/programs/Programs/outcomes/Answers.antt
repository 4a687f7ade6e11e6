-- All are over.
use Rattle.std.proofs.Common.{ℕ, true, ◌≡◌, subst, IfOk}
use Rattle.m88_event.specs.Timeline.{Moment}
use Rattle.m88_tasks.proofs.Events.{all_outcomes}
use Rattle.m88_tasks.specs.Shared.{Group, all_over, outcomes_of}
use Rattle.m88_tasks.specs.Tasks.{ArePrograms, ProgramsView}
use Rattle.m88_tasks.proofs.programs.Programs.outcomes.Goals as goal

pub outcomes_in-requires : goal.outcomes_in-requires
outcomes_in-requires c = (c.self.invariant.current, λ q h. c.self.invariant.are.places q _ h)

pub returns : goal.returns
returns c =
    subst (λ (v : ProgramsView). IfOk c.outcomes_in.result (λ outcomes. (g : Group) (moments : ℕ → Moment) (current : ℕ)
    → ArePrograms g moments current v → all_over g moments ≡ true → outcomes.items ≡ outcomes_of g moments g.count)) c.self.view_is
    (all_outcomes (λ outcomes. outcomes.items) c.outcomes_in.result
    (record { board = c.self.inside.board; contexts = c.self.inside.contexts.items; current = c.self.inside.current })
    c.in_ok-own.own c.in_ok-own.ensures.moment c.outcomes_in.ensures)
