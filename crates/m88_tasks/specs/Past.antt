-- What lies behind each moment of the shared timeline.
use Rattle.std.specs.Prelude.{ℕ, ◌≡◌, ◌≤◌, true}
use Rattle.m88_tasks.specs.Shared.{Group, SharedMoment, all_over, over_at}

-- the program that runs is over only where every program is, and no program had more events than the whole board
pub record HasSharedPast (g : Group) (s : SharedMoment) : Type 0 where
  pub lives : over_at g s.moments s.current ≡ true → all_over g s.moments ≡ true
  pub counted : (q : ℕ) → (s.moments q).events ≤ s.events
