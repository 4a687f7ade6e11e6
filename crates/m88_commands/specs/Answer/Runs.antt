-- What a run reports: what the sequential machine comes to over the program of a source, of S-records, or of a
-- workload.
use Rattle.std.specs.Prelude.{ℕ, false, ◌≡◌, ◌≤◌, List}
use Rattle.m88_base.specs.Image.{ProgramImage}
use Rattle.m88_base.specs.Pages.{every_page}
use Rattle.m88_isa.specs.ImageProgram.{IsProgramOf}
use Rattle.m88_isa.specs.Machine.{Program}
use Rattle.m88_asm.specs.Sources.{IsProgramSource, IsSourceProgram}
use Rattle.m88_srec.specs.Accepted.{IsAccepted, whole_of}
use Rattle.m88_event.specs.Run.{IsOutcome}
use Rattle.m88_event.specs.declared.outcome.Outcome.{Outcome}
use Rattle.m88_commands.specs.Limits.{most_statements}
use Rattle.m88_session.specs.Settings.{Settings, run_by}
use Rattle.m88_commands.specs.Answer.Workload.{summary_of, workload_schedule, workload_source}

-- the program is that of the image that S-records write
pub record IsLoadedProgram (text : List ℕ) (p : Program) : Type 0 where
  pub image : ProgramImage
  pub is_written : IsAccepted text (whole_of image)
  pub is_program : IsProgramOf image p

-- the text is what is told of the outcome that a run of such a program comes to, in the mode of the settings
pub record IsReport (told_of : Outcome → List ℕ) (IsSuch : Program → Type 0) (settings : Settings)
    (text : List ℕ) : Type 0 where
  pub program : Program
  pub is_such : IsSuch program
  pub mode : program.mxm ≡ settings.mxm
  pub outcome : Outcome
  pub is_outcome : IsOutcome (run_by program settings) outcome
  pub is_text : text ≡ told_of outcome

-- the settings of the run of a workload: as many instructions as it has statements, each page absent at first, its
-- schedule, and MXM clear
abbrev pub workload_settings : ℕ → ℕ → Settings
workload_settings number count =
    record { limit = count; absent = every_page; schedule = workload_schedule number count; mxm = false }

-- the text is the summary of that run, over the workload's source
abbrev pub IsSummary : ℕ → ℕ → List ℕ → Type 0
IsSummary number count text =
    IsReport (summary_of number count) (IsSourceProgram (workload_source number count))
    (workload_settings number count) text

-- the source of each workload is accepted
abbrev pub WorkloadsAreAccepted : Type 0
WorkloadsAreAccepted = (number count : ℕ) → count ≤ most_statements → IsProgramSource (workload_source number count)
