-- An input of `check`: a source, and the lines of a trace behind its first line `trace`. Which such inputs are
-- accepted, and where and why any other is refused: that it has no line `trace` comes before every fault of the source,
-- and these before the first line that isn't the trace's. What `check` writes stands here too.
use Rattle.std.specs.Prelude.{ℕ, ◌≡◌, ◌+◌, ◌⊎◌, List, codes}
use Rattle.m88_base.specs.Parted.{IsParted, IsUnparted}
use Rattle.m88_base.specs.Refusal.{Refusal}
use Rattle.m88_report.specs.Report.{count_line}
use Rattle.m88_trace.specs.Texts.{DiffersBehind, IsText}
use Rattle.m88_trace.specs.Trace.{trace_line}
use Rattle.m88_asm.specs.Sources.{HoldsOfProgram, IsProgramSource, IsRefusedProgram}

-- the line between a source and the lines of a trace
abbrev pub trace_separator : List ℕ
trace_separator = codes "trace"

-- a text is the first so many lines of the trace of the source's program, MXM clear
abbrev pub BeginsTrace : List ℕ → List ℕ → ℕ → Type 0
BeginsTrace source text n = HoldsOfProgram source (λ p. IsText (trace_line p) text n)

-- or it differs from that trace behind so many lines
abbrev pub LeavesTrace : List ℕ → List ℕ → ℕ → Type 0
LeavesTrace source text n = HoldsOfProgram source (λ p. DiffersBehind (trace_line p) text n)

-- what an input with a line `trace` says: a source, how many lines stand before the text, and the text
pub record TraceParts : Type 0 where
  pub source : List ℕ
  pub lines : ℕ
  pub text : List ℕ

-- the input says that: its first line `trace` is the last of these lines
abbrev pub AreTraceParts : List ℕ → TraceParts → Type 0
AreTraceParts input t = IsParted trace_separator input t.source t.lines t.text

-- the input is a source that can be assembled and linked, and behind the line `trace` so many lines of its trace
pub record HasTrace (input : List ℕ) (n : ℕ) : Type 0 where
  pub parts : TraceParts
  pub are_parts : AreTraceParts input parts
  pub is_program : IsProgramSource parts.source
  pub begins : BeginsTrace parts.source parts.text n

-- the input is accepted
abbrev pub IsTracedSource : List ℕ → Type 0
IsTracedSource input = (n : ℕ) × HasTrace input n

-- the refusal of an input without a line `trace`, at a line
abbrev pub no_trace_refusal : ℕ → Refusal
no_trace_refusal n = record { line = n; column = 1; reason = codes "no trace" }

-- that of a line that isn't the trace's
abbrev pub differs_refusal : ℕ → Refusal
differs_refusal n = record { line = n; column = 1; reason = codes "differs" }

-- an input is refused where it has no line `trace`: the line behind the last is missing
pub record IsUntraced (input : List ℕ) (r : Refusal) : Type 0 where
  pub lines : ℕ
  pub is_unparted : IsUnparted trace_separator input lines
  pub refusal : r ≡ no_trace_refusal (lines + 1)

-- where it has one, at the first fault of the source before it
pub record IsRefusedBeforeTrace (input : List ℕ) (r : Refusal) : Type 0 where
  pub parts : TraceParts
  pub are_parts : AreTraceParts input parts
  pub is_refused : IsRefusedProgram 0 parts.source r

-- and where that has none, at the first line behind it that isn't the trace's
pub record DiffersFromTrace (input : List ℕ) (r : Refusal) : Type 0 where
  pub parts : TraceParts
  pub are_parts : AreTraceParts input parts
  pub is_program : IsProgramSource parts.source
  pub before : ℕ
  pub leaves : LeavesTrace parts.source parts.text before
  pub refusal : r ≡ differs_refusal (parts.lines + before + 1)

-- an input is refused so
abbrev pub IsRefusedTrace : List ℕ → Refusal → Type 0
IsRefusedTrace input r = IsUntraced input r ⊎ (IsRefusedBeforeTrace input r ⊎ DiffersFromTrace input r)

-- the text tells how many lines of its trace the input has
abbrev pub IsCheckText : List ℕ → List ℕ → Type 0
IsCheckText input text = (count : ℕ) × HasTrace input count × (text ≡ count_line (codes "ok") count)
