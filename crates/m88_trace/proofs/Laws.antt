-- What those above may use of traces without a call: a text has one verdict, and a run one trace, that of its limit.
use Rattle.std.specs.Prelude.{ℕ, List, ◌≡◌, ◌+◌}
use Rattle.std.proofs.Common.{sym, ◌∙◌}
use Rattle.m88_base.specs.OneVerdict.{HasOneVerdict}
use Rattle.m88_event.proofs.Laws.{past_after}
use Rattle.m88_event.specs.Bound.{one_if}
use Rattle.m88_event.specs.Run.{moment_after}
use Rattle.m88_isa.specs.Machine.{Program}
use Rattle.m88_trace.proofs.History.{some_line}
use Rattle.m88_trace.proofs.Runs.{over_alone, over_text}
use Rattle.m88_trace.proofs.Verdicts.{one_verdict}
use Rattle.m88_trace.specs.Texts.{DiffersBehind, IsText}
use Rattle.m88_trace.specs.Trace.{IsRunTrace, trace_line, trace_of}
use Rattle.m88_event.specs.Timeline.{Run}

-- a text is so many lines of a program's trace, or differs behind so many
pub one_verdict_of : (p : Program) (text : List ℕ) →
    HasOneVerdict (IsText (trace_line p) text) (DiffersBehind (trace_line p) text)
one_verdict_of p text = one_verdict (trace_line p) text (some_line p)

-- the trace of a run is that of its program and its limit, whatever pages are absent and whatever the schedule, so that
-- runs with one limit have one trace
pub run_trace_alone : (r : Run) (text : List ℕ) → IsRunTrace r text → text ≡ trace_of r.program r.limit
run_trace_alone r text trace =
    trace.value ∙ over_alone r (moment_after r trace.events) (past_after r trace.events) trace.run.here

-- and it is so many lines
pub run_trace_lines : (r : Run) (text : List ℕ) → IsRunTrace r text → (lines : ℕ) × IsText (trace_line r.program) text lines
run_trace_lines r text trace =
    let m = moment_after r trace.events in
    (m.retired + one_if m.ended, over_text r m text (past_after r trace.events) trace.value)
