-- What a session writes and shows over the program of the source behind the script.
use Rattle.std.specs.Prelude.{ℕ, Bool, ◌≡◌, ◌++◌, List, Option}
use Rattle.m88_isa.specs.Machine.{Program}
use Rattle.m88_board.specs.Glances.{Saw}
use Rattle.m88_board.specs.declared.glance.Glance.{Glance}
use Rattle.m88_asm.specs.Sources.{IsSourceProgram}
use Rattle.m88_session.specs.Monitoring.{IsMonitorInput}
use Rattle.m88_session.specs.Script.{IsScript}
use Rattle.m88_session.specs.Session.{IsSession, opening_session}
use Rattle.m88_session.specs.Settings.{Settings, run_by}
use Rattle.m88_session.specs.declared.script.MonitorCommand.{MonitorCommand}

-- the commands of an input's script, and a program of the source behind it, in a mode
pub record Scripted (input : List ℕ) (mxm : Bool) (commands : List MonitorCommand) (p : Program) : Type 0 where
  pub lines : ℕ
  pub source : List ℕ
  pub is_script : IsScript input commands lines source
  pub is_program : IsSourceProgram source p
  pub mode : p.mxm ≡ mxm

-- a session of the input's commands over such a program writes the text and shows the glances
pub record IsInputSession (input : List ℕ) (settings : Settings) (text : List ℕ) (glances : List Glance)
    : Type 0 where
  pub commands : List MonitorCommand
  pub program : Program
  pub scripted : Scripted input settings.mxm commands program
  pub is_session : IsSession (run_by program settings) commands opening_session text glances

-- the text is what a session writes
abbrev pub IsMonitorText : List ℕ → Settings → List ℕ → Type 0
IsMonitorText input settings text = (glances : List Glance) × IsInputSession input settings text glances

-- an input is accepted, a session of it writes the text, and a watch was shown it to its end
pub record IsShownSession (input : List ℕ) (settings : Settings) (text : List ℕ) (before after : Option (List Glance))
    : Type 0 where
  pub accepted : IsMonitorInput input
  pub glances : List Glance
  pub is_session : IsInputSession input settings text glances
  pub saw : Saw before after glances

-- or a watch was shown a front of it: others come behind what it was shown
pub record IsFrontOfSession (input : List ℕ) (settings : Settings) (before after : Option (List Glance)) : Type 0 where
  pub accepted : IsMonitorInput input
  pub glances : List Glance
  pub others : List Glance
  pub text : List ℕ
  pub is_session : IsInputSession input settings text (glances ++ others)
  pub saw : Saw before after glances
