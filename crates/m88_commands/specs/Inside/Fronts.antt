-- What a watch was shown of a run, whole or so far as memory lasted.
use Rattle.std.specs.Prelude.{ℕ, List, ◌≡◌, Option}
use Rattle.m88_isa.specs.Machine.{Program}
use Rattle.m88_event.specs.Run.{IsRunning, moment_after}
use Rattle.m88_board.specs.Glances.{Saw, glances_along}
use Rattle.m88_board.specs.declared.glance.Glance.{Glance}
use Rattle.m88_session.specs.Settings.{Settings, run_by}
use Rattle.m88_commands.specs.Watching.{ShowsRun}

-- a watch was shown a board at each moment of a whole run of a program, in the mode of the settings
abbrev pub SawRun : Program → Settings → Option (List Glance) → Option (List Glance) → Type 0
SawRun p s before after = (glances : List Glance) × ShowsRun p s glances × Saw before after glances

-- or at its first moments
pub record SawFront (p : Program) (s : Settings) (before after : Option (List Glance)) : Type 0 where
  pub mode : p.mxm ≡ s.mxm
  pub events : ℕ
  pub is_running : IsRunning (run_by p s) events
  pub saw : Saw before after (glances_along p (moment_after (run_by p s)) events)
