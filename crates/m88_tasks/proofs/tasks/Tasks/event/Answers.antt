-- A letter is taken, and its event counted.
use Rattle.std.proofs.Common.{◌≡◌, ◌∙◌, ◌<◌, ◌+◌, ap, false, sym, subst}
use Rattle.std.proofs.lemmas.Result.{err_from_is_err_and}
use Rattle.m88_board.specs.Kept.{most_events}
use Rattle.m88_tasks.proofs.Events.{event_at, event_tasks, refused_tasks, takes_at}
use Rattle.m88_tasks.proofs.Running.{board_room}
use Rattle.m88_tasks.specs.Tasks.{AreTasks, IsTasksAt, TasksView, is_over_view}
use Rattle.m88_tasks.proofs.tasks.Tasks.event.Goals as goal

pub take-requires : goal.take-requires
take-requires c =
    board_room (record { programs = c.self.inside.programs; events = c.self.inside.events; switches = c.self.inside.switches.items }) c.self.invariant
    (subst (λ (t : TasksView). t.events < most_events) (sym c.self.view_is) c.requires.room)

pub invariant_of-self : goal.invariant_of-self
invariant_of-self c =
    let old : TasksView = record { programs = c.self.inside.programs; events = c.self.inside.events; switches = c.self.inside.switches.items } in
    let left = c.in_err-turned.ensures.err in
    subst AreTasks (sym (refused_tasks old c.take.new.self c.take.new.switches.items left.programs left.switches)) c.self.invariant

pub returns-in_err-turned-clause-err : goal.returns-in_err-turned-clause-err
returns-in_err-turned-clause-err c =
    let p = err_from_is_err_and c.from_residual.result c.from_residual.ensures.1 in
    let old : TasksView = record { programs = c.self.inside.programs; events = c.self.inside.events; switches = c.self.inside.switches.items } in
    let left = c.in_err-turned.ensures.err in
    rw (p.1) (refused_tasks old c.take.new.self c.take.new.switches.items left.programs left.switches ∙ c.self.view_is)

pub invariant_of-self-2 : goal.invariant_of-self-2
invariant_of-self-2 c =
    event_tasks (record { programs = c.self.inside.programs; events = c.self.inside.events; switches = c.self.inside.switches.items })
    c.args.letter c.in_ok-turned.turned c.take.new.self c.take.new.switches.items c.in_ok-turned.ensures.taken c.self.invariant
    (subst (λ (t : TasksView). is_over_view t ≡ false) (sym c.self.view_is) c.requires.going)
    (subst (λ (t : TasksView). t.events < most_events) (sym c.self.view_is) c.requires.room)

pub returns-clause-made : goal.returns-clause-made
returns-clause-made c =
    let old : TasksView = record { programs = c.self.inside.programs; events = c.self.inside.events; switches = c.self.inside.switches.items } in
    let going = subst (λ (t : TasksView). is_over_view t ≡ false) (sym c.self.view_is) c.requires.going in
    record {
      timeline = λ g s at.
          event_at g s old c.args.letter c.in_ok-turned.turned c.take.new.self c.take.new.switches.items c.in_ok-turned.ensures.taken
          (subst (IsTasksAt g s) (sym c.self.view_is) at) going;
      said = λ g s at.
          (takes_at g s old c.args.letter c.in_ok-turned.turned c.take.new.self c.take.new.switches.items c.in_ok-turned.ensures.taken
          (subst (IsTasksAt g s) (sym c.self.view_is) at) going).says;
      counted = ap (λ (t : TasksView). t.events + 1) c.self.view_is;
    }
