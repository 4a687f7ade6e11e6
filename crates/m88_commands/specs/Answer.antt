-- What a command does with an input: which inputs it accepts and where and why it refuses any other goes by the kind of
-- its input, and what it writes for one that it accepts has a case for each command.
pub mod Assembly
pub mod Objects
pub mod Runs
pub mod Workload
pub mod Sharing
pub mod Numbered
pub mod Emulation
pub mod Paging
pub mod Traces
use Rattle.std.specs.Prelude.{ℕ, ◌≡◌, ◌⊎◌, List}
use Rattle.m88_commands.specs.Answer.Assembly.{IsObjectText, IsRecordText}
use Rattle.m88_commands.specs.Command.{Command, run, exec, asm, link, build, dis, mon, soak, share, emu, page, trace, check, kind_of}
use Rattle.m88_commands.specs.Answer.Emulation.{IsEmulatedText}
use Rattle.m88_commands.specs.Kinds.{IsAcceptedAs, IsRefusedAs}
use Rattle.m88_commands.specs.Loading.{IsListingText}
use Rattle.m88_session.specs.MonitorText.{IsMonitorText}
use Rattle.m88_commands.specs.Answer.Objects.{IsLinkedText}
use Rattle.m88_base.specs.Refusal.{Refusal, refusal_line}
use Rattle.m88_commands.specs.Answer.Runs.{IsLoadedProgram, IsReport, IsSummary}
use Rattle.m88_asm.specs.Sources.{IsSourceProgram}
use Rattle.m88_commands.specs.Answer.Paging.{IsPagedText}
use Rattle.m88_commands.specs.Answer.Sharing.{IsSharedText}
use Rattle.m88_commands.specs.TracedSources.{IsCheckText}
use Rattle.m88_commands.specs.Answer.Traces.{IsTraceText}
use Rattle.m88_report.specs.Report.{report_of}

-- a command accepts an input that is accepted as one of its kind
abbrev pub Accepts : Command → List ℕ → Type 0
Accepts command input = IsAcceptedAs (kind_of command) input

-- and refuses any other as one of its kind is refused
abbrev pub Refuses : Command → List ℕ → Refusal → Type 0
Refuses command input r = IsRefusedAs (kind_of command) input r

-- the text is what a command writes for an input that it accepts: `run` and `exec` the report of a run, `asm` the text
-- of the objects, `link` and `build` the S-records of the image, `dis` the listing of the image, `mon` what a session
-- with the monitor writes, `soak` the summary of the run of a workload, `share` what is told of programs that share a
-- board, `emu` what is told of a run with a monitor that emulates, `page` what is told of one whose memory stands in
-- frames, `trace` its trace, `check` how many lines of its trace stand behind a source
abbrev pub IsOutput : Command → List ℕ → List ℕ → Type 0
IsOutput (run settings) source text = IsReport report_of (IsSourceProgram source) settings text
IsOutput (exec settings) records text = IsReport report_of (IsLoadedProgram records) settings text
IsOutput asm source text = IsObjectText source text
IsOutput link objects text = IsLinkedText objects text
IsOutput build source text = IsRecordText source text
IsOutput dis records text = IsListingText records text
IsOutput (mon settings) input text = IsMonitorText input settings text
IsOutput (soak number count) input text = IsSummary number count text
IsOutput (share limit absent schedule) input text = IsSharedText input limit absent schedule text
IsOutput (emu settings) source text = IsEmulatedText source settings text
IsOutput (page frames settings) source text = IsPagedText source frames settings text
IsOutput (trace settings) source text = IsTraceText source settings text
IsOutput check input text = IsCheckText input text

-- the text answers an input that the command accepts
pub record IsAnswerToAccepted (command : Command) (input text : List ℕ) : Type 0 where
  pub accepted : Accepts command input
  pub output : IsOutput command input text

-- the text answers an input that the command refuses: it is the line of the refusal
pub record IsAnswerToRefused (command : Command) (input text : List ℕ) : Type 0 where
  pub refusal : Refusal
  pub refused : Refuses command input refusal
  pub line : text ≡ refusal_line refusal

-- the text answers an input
abbrev pub IsAnswer : Command → List ℕ → List ℕ → Type 0
IsAnswer command input text = IsAnswerToAccepted command input text ⊎ IsAnswerToRefused command input text
