-- What a watch is shown while a command is carried out: the board after each event, where the command shows boards, and
-- else nothing. Some commands run boards that no watch is shown.
use Rattle.std.specs.Prelude.{ℕ, ◌≡◌, ◌++◌, ◌⊎◌, List, [], Option}
use Rattle.m88_isa.specs.Machine.{Program}
use Rattle.m88_event.specs.Run.{HasEvents, moment_after}
use Rattle.m88_board.specs.Glances.{Saw, glances_along}
use Rattle.m88_board.specs.declared.glance.Glance.{Glance}
use Rattle.m88_commands.specs.Answer.{Accepts}
use Rattle.m88_commands.specs.Command.{Command, run, exec, mon, soak}
use Rattle.m88_session.specs.MonitorText.{IsInputSession}
use Rattle.m88_commands.specs.Answer.Runs.{IsLoadedProgram, workload_settings}
use Rattle.m88_asm.specs.Sources.{IsSourceProgram}
use Rattle.m88_session.specs.Settings.{Settings, run_by}
use Rattle.m88_commands.specs.Answer.Workload.{workload_source}

-- the glances at each moment of a whole run of a program, in the mode of the settings
pub record ShowsRun (p : Program) (s : Settings) (glances : List Glance) : Type 0 where
  pub mode : p.mxm ≡ s.mxm
  pub events : ℕ
  pub is_run : HasEvents (run_by p s) events
  pub glances_are : glances ≡ glances_along p (moment_after (run_by p s)) events

-- what a command shows that carries out an input
abbrev pub ShowsGlances : Command → List ℕ → List Glance → Type 0
ShowsGlances (run settings) source glances = (p : Program) × IsSourceProgram source p × ShowsRun p settings glances
ShowsGlances (exec settings) text glances = (p : Program) × IsLoadedProgram text p × ShowsRun p settings glances
ShowsGlances (mon settings) input glances = (text : List ℕ) × IsInputSession input settings text glances
ShowsGlances (soak number count) input glances = (p : Program) × IsSourceProgram (workload_source number count) p
    × ShowsRun p (workload_settings number count) glances
ShowsGlances _ input glances = glances ≡ []

-- a watch was shown all of that
abbrev pub Shown : Command → List ℕ → Option (List Glance) → Option (List Glance) → Type 0
Shown command input before after =
    (glances : List Glance) × ShowsGlances command input glances × Saw before after glances

-- or a front of it, over an input that the command accepts: others come behind what it was shown
pub record FrontOfAccepted (command : Command) (input : List ℕ) (before after : Option (List Glance)) : Type 0 where
  pub accepted : Accepts command input
  pub glances : List Glance
  pub others : List Glance
  pub shows : ShowsGlances command input (glances ++ others)
  pub saw : Saw before after glances

-- a watch, of which it is known how it tells what it was shown, was shown the whole of a command where the command
-- accepts its input, and else is as it was
abbrev pub ShownIfAccepted : {W : Type 0} → (W → Option (List Glance)) → W → W → Command → List ℕ → Type 0
ShownIfAccepted seen old new command input =
    (Accepts command input × Shown command input (seen old) (seen new)) ⊎ (¬ Accepts command input × (new ≡ old))
