-- What `trace` writes of a source: a line for each instruction of a run, and one for its end (the format of traces,
-- docs/FORMATS.md).
use Rattle.std.specs.Prelude.{ℕ, ◌≡◌, List}
use Rattle.m88_trace.specs.Trace.{IsRunTrace, trace_of}
use Rattle.m88_asm.specs.Sources.{HoldsOfProgram}
use Rattle.m88_session.specs.Settings.{Settings, run_by}

-- the text is the trace of a run of the source's program, MXM clear, and that of the program up to the limit, whatever
-- pages are absent and whatever the schedule is
abbrev pub IsTraceText : List ℕ → Settings → List ℕ → Type 0
IsTraceText source s text =
    HoldsOfProgram source (λ p. IsRunTrace (run_by p s) text × (text ≡ trace_of p s.limit))
