-- What a command makes of what another one wrote: laws between the commands, of every input.
use Rattle.std.specs.Prelude.{ℕ, ◌↔◌, ◌≤◌, ◌++◌, List, length}
use Rattle.m88_base.specs.Image.{IsImage, ProgramImage}
use Rattle.m88_base.specs.Lines.{line_end}
use Rattle.m88_isa.specs.Machine.{Program}
use Rattle.m88_parse.specs.Language.Ended.{ended}
use Rattle.m88_srec.specs.Accepted.{IsAccepted, whole_of}
use Rattle.m88_srec.specs.Written.{srec_text}
use Rattle.m88_board.specs.declared.glance.Glance.{Glance}
use Rattle.m88_commands.specs.Answer.{Accepts, IsAnswerToAccepted, IsAnswerToRefused}
use Rattle.m88_commands.specs.Command.{asm, build, check, exec, link, run, dis, trace}
use Rattle.m88_commands.specs.Limits.{most_input}
use Rattle.m88_commands.specs.Answer.Runs.{IsLoadedProgram}
use Rattle.m88_asm.specs.Sources.{IsSourceProgram}
use Rattle.m88_session.specs.Settings.{Settings}
use Rattle.m88_commands.specs.TracedSources.{trace_separator}
use Rattle.m88_commands.specs.Watching.{ShowsGlances}

-- a text is short enough to be an input
abbrev pub FitsInput : List ℕ → Type 0
FitsInput text = length text ≤ most_input

-- `exec` of the records does what `run` of the source does: they carry one program out, write the same reports, and
-- show the same
pub record RunAlike (source records : List ℕ) : Type 0 where
  pub programs : (p : Program) → IsSourceProgram source p ↔ IsLoadedProgram records p
  pub reports : (settings : Settings) (report : List ℕ)
      → IsAnswerToAccepted (run settings) source report
      ↔ IsAnswerToAccepted (exec settings) records report
  pub shows : (settings : Settings) (glances : List Glance)
      → ShowsGlances (run settings) source glances ↔ ShowsGlances (exec settings) records glances

-- a source and the records that `build` writes of it run alike
abbrev pub BuiltRunsAlike : Type 0
BuiltRunsAlike = (source records : List ℕ) → FitsInput source → IsAnswerToAccepted build source records
    → RunAlike source records

-- `link` of the objects answers as `build` does of the source: with the same records, or with the same line, which
-- refuses the layout
pub record LinkAlike (source objects : List ℕ) : Type 0 where
  pub records : (text : List ℕ) → IsAnswerToAccepted build source text ↔ IsAnswerToAccepted link objects text
  pub refusals : (text : List ℕ) → IsAnswerToRefused build source text ↔ IsAnswerToRefused link objects text

-- a source and the objects that `asm` writes of it link alike
abbrev pub AssembledLinksAlike : Type 0
AssembledLinksAlike = (source objects : List ℕ) → FitsInput source → IsAnswerToAccepted asm source objects
    → LinkAlike source objects

-- `build` of the listing that `dis` writes of S-records writes the records of the image that they hold
abbrev pub ListedBuildsAlike : Type 0
ListedBuildsAlike = (records listing : List ℕ) (image : ProgramImage) → IsAnswerToAccepted dis records listing
    → IsImage image → IsAccepted records (whole_of image) → IsAnswerToAccepted build listing (srec_text image)

-- a source with a trace behind it, and a line `trace` between them
abbrev pub with_trace : List ℕ → List ℕ → List ℕ
with_trace source text = ended source ++ trace_separator ++ line_end ++ text

-- what `trace` writes of a source is accepted behind it by `check`
abbrev pub TracedIsChecked : Type 0
TracedIsChecked = (source text : List ℕ) (settings : Settings) → IsAnswerToAccepted (trace settings) source text
    → Accepts check (with_trace source text)
