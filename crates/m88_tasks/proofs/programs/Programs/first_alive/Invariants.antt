-- No program before this one isn't over.
use Rattle.std.proofs.Common.{ℕ, ◌≡◌, ◌-◌}
use Rattle.m88_event.specs.Timeline.{Moment}
use Rattle.m88_tasks.specs.Shared.{Group, first_alive}
use Rattle.m88_tasks.specs.Tasks.{ArePrograms}
use Rattle.m88_tasks.proofs.programs.Programs.first_alive.Given as goal

abbrev pub invariant-loop-q : goal.invariant-loop-q
invariant-loop-q l = (g : Group) (moments : ℕ → Moment) (current : ℕ) → ArePrograms g moments current l.self
    → first_alive g moments l.q (l.before - l.q) ≡ first_alive g moments l.from (l.before - l.from)
