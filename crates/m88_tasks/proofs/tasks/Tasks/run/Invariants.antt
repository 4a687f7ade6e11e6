-- So many letters are taken, and the programs stand where these lead.
use Rattle.std.proofs.Common.{◌≡◌, ◌-◌, length}
use Rattle.m88_tasks.proofs.Running.{HasRoom, Went}
use Rattle.m88_tasks.specs.Shared.{Group, opening_shared}
use Rattle.m88_tasks.specs.Tasks.{IsTasksAt, most_shared_events}
use Rattle.m88_tasks.proofs.tasks.Tasks.run.Given as goal

abbrev pub invariant-loop-self : goal.invariant-loop-self
invariant-loop-self l = record {
  count : l.self.events ≡ l.taken;
  room : HasRoom (length l.schedule) l.schedule l.taken (length l.initial.self.programs.contexts) l.initial.self.programs.board.limit l.self;
  went : (g : Group) → IsTasksAt g (opening_shared g) l.initial.self → Went g l.schedule l.taken l.self;
}

abbrev pub decreases-loop-self : goal.decreases-loop-self
decreases-loop-self l =
    most_shared_events (length l.schedule) (length l.initial.self.programs.contexts) l.initial.self.programs.board.limit - l.taken
