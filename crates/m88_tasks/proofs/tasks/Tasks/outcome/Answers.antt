-- What each program came to, the switches and the events.
use Rattle.std.proofs.Common.{◌∙◌, ap, sym, subst}
use Rattle.m88_tasks.specs.Tasks.{IsTasksAt, TasksView}
use Rattle.m88_tasks.proofs.tasks.Tasks.outcome.Goals as goal

pub returns : goal.returns
returns c = record {
  value = λ g s at all.
      let here = subst (IsTasksAt g s) (sym c.self.view_is) at in
      let outcomes = c.new.ensures ∙ c.in_ok-outcomes.ensures g s.moments s.current here.programs all in
      let switches = c.new-2.ensures ∙ here.switches in
      λ i. record { outcomes = outcomes i; switches = switches i; events = here.events i };
  events = ap (λ (t : TasksView). t.events) c.self.view_is;
}
