-- A session with the monitor: commands that are carried out one after the other on one board, over one timeline. What
-- each writes, and what a watch is shown.
use Rattle.std.specs.Prelude.{ℕ, zero, suc, Bool, true, List, [], ◌∷◌, ◌++◌, ◌≡◌, ◌+◌}
use Rattle.m88_isa.specs.Address.{word_address}
use Rattle.m88_isa.specs.Machine.{Program}
use Rattle.m88_event.specs.Run.{IsFirst, answered_after, letters_from}
use Rattle.m88_event.specs.Timeline.{Moment, Run, is_drained, opening_moment, record_at}
use Rattle.m88_report.specs.Report.{record_lines}
use Rattle.m88_board.specs.Glances.{glances_along}
use Rattle.m88_board.specs.Walks.{is_halt, is_made, moments_from, stops_after}
use Rattle.m88_board.specs.declared.glance.Glance.{Glance}
use Rattle.m88_session.specs.MonitorLines.{breakpoint_line, counts_text, registers_text, event_line, words_text}
use Rattle.m88_session.specs.declared.script.MonitorCommand.{MonitorCommand}
use Rattle.m88_session.specs.declared.script.MonitorCommand.TheVariants.{Step, Go, Break, Regs, Pipe, Memory, Drain, Trace}

-- where a session stands: the moment, how many letters of the run were taken, and the breakpoints, which are addresses
-- of words
pub record Session : Type 0 where
  pub moment : Moment
  pub taken : ℕ
  pub breakpoints : List ℕ

-- at first
abbrev pub opening_session : Session
opening_session = record { moment = opening_moment; taken = 0; breakpoints = [] }

-- the moment after so many events of the letters that come next
abbrev pub moment_on : Run → Session → ℕ → Moment
moment_on r s = moments_from r s.taken s.moment

-- whether a walk from there stops after so many events, by when it is to go no further
abbrev pub stops_on : Run → Session → (Program → ℕ → Moment → Bool) → ℕ → Bool
stops_on r s enough = stops_after enough r s.taken s.moment

-- the moments that a command goes along: `drain` makes `r` events and takes no letter of the run, the others take these
abbrev pub moments_of : Run → Session → MonitorCommand → ℕ → Moment
moments_of r s Drain = answered_after r s.moment
moments_of r s _ = moment_on r s

-- a command makes no more than so many events: `step` and `trace` as many as they are asked for, `go` up to a
-- breakpoint, all three none behind the end of the run; `drain` until nothing is pending; the others none
abbrev pub stops_command : Run → Session → MonitorCommand → ℕ → Bool
stops_command r s (Step most) = stops_on r s (is_made most)
stops_command r s (Trace most) = stops_on r s (is_made most)
stops_command r s Go = stops_on r s (is_halt s.breakpoints)
stops_command r s Drain = λ k. is_drained r.program (answered_after r s.moment k)
stops_command r s _ = λ k. true

-- a command makes so many events: it stops behind them, and not before
abbrev pub Makes : Run → Session → MonitorCommand → ℕ → Type 0
Makes r s command = IsFirst (stops_command r s command)

-- the lines of so many events
unfoldable pub event_lines : Run → Session → ℕ → List ℕ
event_lines r s zero = []
event_lines r s (suc k) = event_lines r s k ++ event_line r (letters_from r.schedule s.taken k) (moment_on r s k)

-- what a command writes that makes so many events
abbrev pub text_of_command : Run → Session → MonitorCommand → ℕ → List ℕ
text_of_command r s (Step most) events = counts_text r.program (moment_on r s events)
text_of_command r s Go events = counts_text r.program (moment_on r s events)
text_of_command r s (Break a) events = breakpoint_line (word_address a)
text_of_command r s Regs events = registers_text r.program s.moment
text_of_command r s Pipe events = record_lines (record_at r s.moment)
text_of_command r s (Memory a n) events = words_text r.program s.moment a n
text_of_command r s Drain events = counts_text r.program (answered_after r s.moment events)
text_of_command r s (Trace most) events = event_lines r s events

-- where a session stands after so many events of the run's letters
unfoldable pub session_on : Run → Session → ℕ → Session
session_on r s events = record s { moment = moment_on r s events; taken = s.taken + events }

-- where a session stands after a command that makes so many events
abbrev pub after_command : Run → Session → MonitorCommand → ℕ → Session
after_command r s (Step most) events = session_on r s events
after_command r s Go events = session_on r s events
after_command r s (Break a) events = record s { breakpoints = s.breakpoints ++ word_address a ∷ [] }
after_command r s Drain events = record s { moment = answered_after r s.moment events }
after_command r s (Trace most) events = session_on r s events
after_command r s _ events = s

-- what a watch is shown of so many events of a command: a glance after each
abbrev pub glances_of : Run → Session → MonitorCommand → ℕ → List Glance
glances_of r s command events = glances_along r.program (moments_of r s command) events

-- a command, and then others: what they write, and what a watch is shown
pub record IsThen (IsRest : Session → List ℕ → List Glance → Type 0) (r : Run) (s : Session)
    (command : MonitorCommand) (text : List ℕ) (glances : List Glance) : Type 0 where
  pub events : ℕ
  pub makes : Makes r s command events
  pub rest : List ℕ
  pub others : List Glance
  pub is_rest : IsRest (after_command r s command events) rest others
  pub text_is : text ≡ text_of_command r s command events ++ rest
  pub glances_are : glances ≡ glances_of r s command events ++ others

-- the text that commands write from a session on, in order, and the glances that a watch is shown
abbrev pub IsSession : Run → List MonitorCommand → Session → List ℕ → List Glance → Type 0
IsSession r [] s text glances = (text ≡ []) × (glances ≡ [])
IsSession r (command ∷ commands) s text glances = IsThen (IsSession r commands) r s command text glances
