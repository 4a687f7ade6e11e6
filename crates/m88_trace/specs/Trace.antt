-- The trace of a program: a line for each step of its history, and one for its end.
use Rattle.std.specs.Prelude.{ℕ, zero, suc, Bool, false, List, [], Option, Some, None, ◌≡◌, ◌+◌, unwrap_or, if◌then◌else◌}
use Rattle.std.specs.Int.{from_be_bytes, w32}
use Rattle.m88_event.specs.Bound.{one_if}
use Rattle.m88_event.specs.Run.{HasEvents, moment_after}
use Rattle.m88_event.specs.Timeline.{Moment, Run}
use Rattle.m88_isa.specs.Bus.{in_words}
use Rattle.m88_isa.specs.Held.{is_stop}
use Rattle.m88_isa.specs.Machine.{Program, State, four_bytes, state, turn_at}
use Rattle.m88_trace.specs.Lines.{turn_line}
use Rattle.m88_trace.specs.Texts.{text_of_first}

-- the word at an address of a program
unfoldable pub program_word_at : Program → ℕ → ℕ
program_word_at p a = from_be_bytes w32 (unwrap_or (four_bytes p.byte a) [])

-- the line of a step that is made from a state
abbrev pub trace_line_at : Program → ℕ → State → List ℕ
trace_line_at p number s = turn_line number s.pc (program_word_at p s.pc) (turn_at p s) (in_words s.memory)

-- a history has ended before a step: the one before it ended it, or did so before
unfoldable pub is_ended : Program → ℕ → Bool
is_ended p zero = false
is_ended p (suc k) = is_stop (turn_at p (state p k))

-- the lines of a history, from 0: one for each step, then that of its end, and none behind it
unfoldable pub trace_line : Program → ℕ → Option (List ℕ)
trace_line p k = if is_ended p k then None else Some (trace_line_at p k (state p k))

-- the trace of a run with a limit: the first so many lines, as far as there are
abbrev pub trace_of : Program → ℕ → List ℕ
trace_of p limit = text_of_first (trace_line p) limit

-- the trace at a moment: a line for each instruction that is retired, and that of the end where the program has ended
abbrev pub trace_at : Program → Moment → List ℕ
trace_at p m = text_of_first (trace_line p) (m.retired + one_if m.ended)

-- a text is the trace at the end of a run
pub record IsRunTrace (r : Run) (text : List ℕ) : Type 0 where
  pub events : ℕ
  pub run : HasEvents r events
  pub value : text ≡ trace_at r.program (moment_after r events)
