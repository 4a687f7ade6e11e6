-- The commands: what words spell each of them, the kind of its input, and which of them show boards.
use Rattle.std.specs.Prelude.{ℕ, Bool, true, false, ◌≡◌, ◌<◌, ◌≤◌, ◌^◌, List, [], ◌∷◌, codes}
use Rattle.m88_tasks.specs.declared.letter.ShareLetter.{ShareLetter}
use Rattle.m88_commands.specs.Limits.{most_statements, session_limit}
use Rattle.m88_session.specs.Numbers.{IsShortNumber}
use Rattle.m88_commands.specs.Words.{SayPaged, SayPlain, SaySession, SaySettings, SayShared}
use Rattle.m88_session.specs.Settings.{AreBounded, Settings, settings_of}
use Rattle.m88_mem.specs.Marks.{NamesPages, absent_in}
use Rattle.m88_pager.specs.Paged.{most_frames}
use Rattle.m88_commands.specs.declared.commands.Command.{Command as Kept}
use Rattle.m88_commands.specs.declared.commands.Command.TheVariants.{Run, Exec, Asm, Link, Build, Dis, Mon, Soak, Share, Emu, Page, Trace, Check}

-- the commands
pub data Command : Type 0 where
  -- the report of a run of a source
  run : Settings → Command
  -- the report of a run of S-records
  exec : Settings → Command
  -- the text of the objects of a source
  asm : Command
  -- the S-records of the text of objects
  link : Command
  -- the S-records of a source
  build : Command
  -- the listing of S-records
  dis : Command
  -- what the monitor writes for a script over a source
  mon : Settings → Command
  -- the summary of the workload of a number, with so many statements
  soak : (number count : ℕ) → Command
  -- the reports of the programs of some sources on one board
  share : (limit : ℕ) (absent : ℕ → Bool) (schedule : List ShareLetter) → Command
  -- the report of a run of a source with a monitor that emulates
  emu : Settings → Command
  -- the report of a run of a source whose memory stands in so many frames too
  page : (frames : ℕ) → Settings → Command
  -- the trace of a run of a source
  trace : Settings → Command
  -- whether lines are the first of the trace of a source
  check : Command

-- a text writes the number of a workload in one to ten decimal digits, which may begin with zeros
abbrev pub IsWorkloadNumber : List ℕ → ℕ → Type 0
IsWorkloadNumber text n = IsShortNumber 10 10 text n × (n < 2 ^ 32)

-- and the count of its statements, at least one, in one to seven
abbrev pub IsWorkloadCount : List ℕ → ℕ → Type 0
IsWorkloadCount text n = IsShortNumber 10 7 text n × (1 ≤ n) × (n ≤ most_statements)

-- the words are the number and the count of a workload
pub record SayWorkload (words : List (List ℕ)) (number count : ℕ) : Type 0 where
  pub number_text : List ℕ
  pub count_text : List ℕ
  pub words_are : words ≡ number_text ∷ count_text ∷ []
  pub is_number : IsWorkloadNumber number_text number
  pub is_count : IsWorkloadCount count_text count

-- the name of a command
abbrev pub name_of : Command → List ℕ
name_of (run settings) = codes "run"
name_of (exec settings) = codes "exec"
name_of asm = codes "asm"
name_of link = codes "link"
name_of build = codes "build"
name_of dis = codes "dis"
name_of (mon settings) = codes "mon"
name_of (soak number count) = codes "soak"
name_of (share limit absent schedule) = codes "share"
name_of (emu settings) = codes "emu"
name_of (page frames settings) = codes "page"
name_of (trace settings) = codes "trace"
name_of check = codes "check"

-- the words are those behind the name of a command; one that isn't told here has none
abbrev pub SayRest : List (List ℕ) → Command → Type 0
SayRest words (run settings) = SaySettings words settings
SayRest words (exec settings) = SaySettings words settings
SayRest words (mon settings) = SaySession words settings
SayRest words (soak number count) = SayWorkload words number count
SayRest words (share limit absent schedule) = SayShared words limit absent schedule
SayRest words (emu settings) = SayPlain words settings
SayRest words (page frames settings) = SayPaged words frames settings
SayRest words (trace settings) = SayPlain words settings
SayRest words _ = words ≡ []

-- the words spell the command: its name, and the words behind it
pub record Spells (words : List (List ℕ)) (command : Command) : Type 0 where
  pub rest : List (List ℕ)
  pub words_are : words ≡ name_of command ∷ rest
  pub say_rest : SayRest rest command

-- the words spell no command
abbrev pub SpellNothing : List (List ℕ) → Type 0
SpellNothing words = (command : Command) → ¬ Spells words command

-- the kinds of input
pub data InputKind : Type 0 where
  -- there is none
  no_input : InputKind
  -- a source to be assembled
  source_to_assemble : InputKind
  -- a source to be assembled and linked
  source_to_link : InputKind
  -- the text of objects
  object_text : InputKind
  -- S-records
  record_text : InputKind
  -- a script, and a source behind it to be assembled and linked
  scripted_source : InputKind
  -- sources to be assembled and linked, each by itself
  sources_to_link : InputKind
  -- a source to be assembled and linked, and the lines of a trace behind it
  traced_source : InputKind

-- the kind of input of a command
abbrev pub kind_of : Command → InputKind
kind_of (run settings) = source_to_link
kind_of (exec settings) = record_text
kind_of asm = source_to_assemble
kind_of link = object_text
kind_of build = source_to_link
kind_of dis = record_text
kind_of (mon settings) = scripted_source
kind_of (soak number count) = no_input
kind_of (share limit absent schedule) = sources_to_link
kind_of (emu settings) = source_to_link
kind_of (page frames settings) = source_to_link
kind_of (trace settings) = source_to_link
kind_of check = traced_source

-- whether there is an input of a kind to read
abbrev pub is_read : InputKind → Bool
is_read no_input = false
is_read _ = true

-- whether a command reads an input
abbrev pub reads_input : Command → Bool
reads_input command = is_read (kind_of command)

-- the words spell no command that reads an input
abbrev pub SpellNoReader : List (List ℕ) → Type 0
SpellNoReader words = (command : Command) → Spells words command → reads_input command ≡ false

-- whether a command shows a watch boards
abbrev pub shows_boards : Command → Bool
shows_boards (run settings) = true
shows_boards (exec settings) = true
shows_boards (mon settings) = true
shows_boards (soak number count) = true
shows_boards _ = false

-- the words spell no command that does
abbrev pub SpellNoRun : List (List ℕ) → Type 0
SpellNoRun words = (command : Command) → Spells words command → shows_boards command ≡ false

-- the command that it is
abbrev pub command_of : Kept → Command
command_of (Run limit absent schedule mxm) = run (settings_of limit absent schedule mxm)
command_of (Exec limit absent schedule mxm) = exec (settings_of limit absent schedule mxm)
command_of Asm = asm
command_of Link = link
command_of Build = build
command_of Dis = dis
command_of (Mon absent schedule mxm) = mon (settings_of session_limit absent schedule mxm)
command_of (Soak number count) = soak number count
command_of (Share limit absent schedule) = share limit (absent_in absent) schedule
command_of (Emu limit absent schedule) = emu (settings_of limit absent schedule false)
command_of (Page frames limit absent schedule) = page frames (settings_of limit absent schedule false)
command_of (Trace limit absent schedule) = trace (settings_of limit absent schedule false)
command_of Check = check

-- its limit and its pages are so; a workload has no more statements than it may, and a paged run as many frames as
-- there may be
abbrev pub IsFit : Kept → Type 0
IsFit (Run limit absent schedule mxm) = AreBounded limit absent
IsFit (Exec limit absent schedule mxm) = AreBounded limit absent
IsFit (Mon absent schedule mxm) = NamesPages absent
IsFit (Soak number count) = count ≤ most_statements
IsFit (Share limit absent schedule) = AreBounded limit absent
IsFit (Emu limit absent schedule) = AreBounded limit absent
IsFit (Page frames limit absent schedule) = (1 ≤ frames) × (frames ≤ most_frames) × AreBounded limit absent
IsFit (Trace limit absent schedule) = AreBounded limit absent
IsFit _ = Unit {0}
