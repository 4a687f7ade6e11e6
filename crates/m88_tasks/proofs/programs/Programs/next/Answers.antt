-- Behind the program that runs, and then from the first on.
use Rattle.std.proofs.Common.{rules, ◌≡◌, ◌∙◌, length, sym, subst, Some, None}
use Rattle.m88_tasks.proofs.Settling.{next_before, next_behind}
use Rattle.m88_tasks.specs.Tasks.{ArePrograms}
use Rattle.m88_tasks.proofs.programs.Programs.next.Goals as goal

pub returns-in-Some : goal.returns-in-Some
returns-in-Some c = λ g moments current held.
    let are = subst (ArePrograms g moments current) (sym c.self.view_is) held in
    let size : c.len.result ≡ length c.self.inside.contexts.items = search rules in
    next_behind g moments current c.self.inside.current c.len.result c.in-Some.q are.number (size ∙ are.count)
    (sym c.in-Some.is ∙ c.first_alive.ensures g moments current held)

pub returns-in-Some-first_alive : goal.returns-in-Some-first_alive
returns-in-Some-first_alive c = λ g moments current held.
    let are = subst (ArePrograms g moments current) (sym c.self.view_is) held in
    let size : c.len.result ≡ length c.self.inside.contexts.items = search rules in
    next_before g moments current c.self.inside.current c.len.result (Some c.in-Some-first_alive.q) are.number (size ∙ are.count)
    (sym c.in_default.is ∙ c.first_alive.ensures g moments current held)
    (sym c.in-Some-first_alive.is ∙ c.first_alive-2.ensures g moments current held)

pub returns-in-None : goal.returns-in-None
returns-in-None c = λ g moments current held.
    let are = subst (ArePrograms g moments current) (sym c.self.view_is) held in
    let size : c.len.result ≡ length c.self.inside.contexts.items = search rules in
    are.number
    ∙ next_before g moments current c.self.inside.current c.len.result None are.number (size ∙ are.count)
    (sym c.in_default.is ∙ c.first_alive.ensures g moments current held)
    (sym c.in-None.is ∙ c.first_alive-2.ensures g moments current held)
