-- Where the monitor stands, and what a command made of it.
use Rattle.std.specs.Prelude.{ℕ, List, [], ◌∷◌, ◌++◌, ◌≡◌, ◌+◌, Option, Result, OnErr, OnOk, count_by, length}
use Rattle.m88_event.specs.Timeline.{Moment, Run, nip_at}
use Rattle.m88_event.specs.declared.happened.Happened.{Happened}
use Rattle.m88_event.specs.declared.letter.Letter.{Letter}
use Rattle.m88_isa.specs.Held.{instruction_at}
use Rattle.m88_isa.specs.Machine.{Program}
use Rattle.m88_board.specs.Glances.{Saw}
use Rattle.m88_board.specs.Moves.{IsAt}
use Rattle.m88_board.specs.declared.glance.Glance.{Glance}
use Rattle.m88_session.specs.Script.{is_break}
use Rattle.m88_session.specs.Inside.Fronts.{IsSessionFront, MakesEach}
use Rattle.m88_session.specs.Session.{IsSession, Makes, Session, after_command, glances_of, opening_session, text_of_command}
use Rattle.m88_session.specs.MonitorLines.{happened_line, letter_text}
use Rattle.m88_session.specs.Settings.{Settings, run_by}
use Rattle.m88_session.specs.declared.monitor.Monitor.{Monitor}
use Rattle.m88_session.specs.declared.monitor.tracing.Before.{Before}
use Rattle.m88_session.specs.declared.script.MonitorCommand.{MonitorCommand}

-- the monitor stands where a session of a run stands
pub record StandsAt (r : Run) (s : Session) (monitor : Monitor) : Type 0 where
  pub schedule : monitor.walk.schedule.now ≡ r.schedule
  pub at : IsAt r s.moment monitor.walk.board.now
  pub taken : monitor.walk.taken ≡ s.taken
  pub breakpoints : monitor.breakpoints.items ≡ s.breakpoints

-- it made the events of a command
pub record Went (r : Run) (s : Session) (command : MonitorCommand)
    (before after : Option (List Glance)) (monitor : Monitor) : Type 0 where
  pub events : ℕ
  pub makes : Makes r s command events
  pub stands : StandsAt r (after_command r s command events) monitor
  pub saw : Saw before after (glances_of r s command events)

-- and wrote its text
pub record Carried (r : Run) (s : Session) (command : MonitorCommand)
    (before after : Option (List Glance)) (old new : List ℕ) (monitor : Monitor) : Type 0 where
  pub went : Went r s command before after monitor
  pub text : new ≡ old ++ text_of_command r s command went.events

-- memory ran out behind the first events of a command
pub record Broke (r : Run) (s : Session) (command : MonitorCommand) (before after : Option (List Glance))
    : Type 0 where
  pub events : ℕ
  pub each : MakesEach r s command events
  pub saw : Saw before after (glances_of r s command events)

-- what the monitor answers to a command, wherever in a session it stands: where the command was carried out, there are as
-- many breakpoints more as it sets, and it went and wrote its text; and else memory ran out behind its first events
pub record Carries {T E : Type 0} (command : MonitorCommand) (before after : Option (List Glance)) (old new : Monitor)
    (text text' : List ℕ) (result : Result T E) : Type 0 where
  pub set : OnOk result (length new.breakpoints.items
      ≡ length old.breakpoints.items + count_by is_break (command ∷ []))
  pub ok : OnOk result ((r : Run) (s : Session) → StandsAt r s old
      → Carried r s command before after text text' new)
  pub err : OnErr result ((r : Run) (s : Session) → StandsAt r s old → Broke r s command before after)

-- what is noted before the event of a letter is so at a moment
pub record IsBefore (p : Program) (letter : Letter) (m : Moment) (before : Before) : Type 0 where
  pub number : before.number ≡ m.events + 1
  pub letter_is : before.letter ≡ letter
  pub address : before.address ≡ (nip_at p m).addr
  pub instruction : before.instruction ≡ instruction_at p (nip_at p m).addr
  pub fault : before.fault ≡ length m.records + 1

-- the line of an event before which this was noted
abbrev pub told_line : Before → Happened → List ℕ
told_line before happened =
    letter_text before.number before.letter
    ++ happened_line before.address before.instruction before.fault happened

-- a session over a program writes the text, and a watch was shown it
pub record TellsSession (s : Settings) (commands : List MonitorCommand) (before after : Option (List Glance))
    (text : List ℕ) (p : Program) : Type 0 where
  pub glances : List Glance
  pub is_session : IsSession (run_by p s) commands opening_session text glances
  pub saw : Saw before after glances

-- or a front of one
pub record ShowsFront (s : Settings) (commands : List MonitorCommand) (before after : Option (List Glance))
    (p : Program) : Type 0 where
  pub glances : List Glance
  pub is_front : IsSessionFront (run_by p s) commands opening_session glances
  pub saw : Saw before after glances
