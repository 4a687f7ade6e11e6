-- What a watch was shown of a session so far as memory lasted.
use Rattle.std.specs.Prelude.{ℕ, List, [], ◌∷◌, ◌++◌, ◌≡◌, ◌⊎◌}
use Rattle.m88_event.specs.Run.{NotBefore}
use Rattle.m88_board.specs.declared.glance.Glance.{Glance}
use Rattle.m88_session.specs.Session.{Makes, Session, after_command, glances_of, stops_command}
use Rattle.m88_session.specs.declared.script.MonitorCommand.{MonitorCommand}
use Rattle.m88_event.specs.Timeline.{Run}

-- a command makes so many events at least
abbrev pub MakesEach : Run → Session → MonitorCommand → ℕ → Type 0
MakesEach r s command = NotBefore (stops_command r s command)

-- the glances of the first events of a command, maybe not all of it
pub record IsUnfinished (r : Run) (s : Session) (command : MonitorCommand) (glances : List Glance) : Type 0 where
  pub events : ℕ
  pub each : MakesEach r s command events
  pub glances_are : glances ≡ glances_of r s command events

-- a command whole, and then a front of others
pub record IsThenFront (IsRest : Session → List Glance → Type 0) (r : Run) (s : Session)
    (command : MonitorCommand) (glances : List Glance) : Type 0 where
  pub events : ℕ
  pub makes : Makes r s command events
  pub others : List Glance
  pub is_rest : IsRest (after_command r s command events) others
  pub glances_are : glances ≡ glances_of r s command events ++ others

-- the glances of a front of commands: some of them whole, and then maybe a part of one more
abbrev pub IsSessionFront : Run → List MonitorCommand → Session → List Glance → Type 0
IsSessionFront r [] s glances = glances ≡ []
IsSessionFront r (command ∷ commands) s glances =
    IsUnfinished r s command glances ⊎ IsThenFront (IsSessionFront r commands) r s command glances
