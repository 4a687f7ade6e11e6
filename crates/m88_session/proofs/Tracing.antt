-- The lines of events, one after the other.
use Rattle.std.specs.Prelude.{ℕ, true, List, ◌++◌, Option, ◌≡◌, ◌+◌}
use Rattle.std.proofs.Common.{add-one, append_assoc, append-nil, sym, ap, ap₂, ◌∙◌, subst}
use Rattle.m88_event.specs.Letters.{letter_at}
use Rattle.m88_event.specs.Run.{letters_from}
use Rattle.m88_event.specs.Timeline.{Moment, Run, nip_at, said_at}
use Rattle.m88_event.specs.declared.happened.Happened.{Happened}
use Rattle.m88_event.specs.declared.letter.Letter.{Letter}
use Rattle.m88_isa.specs.Held.{instruction_at}
use Rattle.m88_board.specs.Moves.{IsAt}
use Rattle.m88_board.specs.Walks.{is_made}
use Rattle.m88_board.specs.declared.glance.Glance.{Glance}
use Rattle.m88_session.proofs.MonitorWalks.{IsAlongOn}
use Rattle.m88_session.specs.MonitorLines.{happened_line, letter_text, event_line}
use Rattle.m88_session.specs.Inside.Fronts.{MakesEach}
use Rattle.m88_session.specs.Session.{Session, moment_on, session_on, stops_on, event_lines}
use Rattle.m88_session.specs.Inside.SessionKept.{Carried, IsBefore, StandsAt, told_line}
use Rattle.m88_session.specs.declared.monitor.Monitor.{Monitor}
use Rattle.m88_session.specs.declared.monitor.tracing.Before.{Before}
use Rattle.m88_session.specs.declared.script.MonitorCommand.TheVariants.{Trace}

-- the line of an event by what was noted before it is that of the moment
pub told_is : (r : Run) (letter : Letter) (m : Moment) (before : Before) (happened : Happened) →
    IsBefore r.program letter m before → happened ≡ said_at r letter m → told_line before happened ≡ event_line r letter m
unfolding event_line
told_is r letter m before happened is says =
    let p = r.program in
    ap₂ (λ n l. letter_text n l ++ happened_line before.address before.instruction before.fault happened) is.number is.letter_is
    ∙ ap₂ (λ a i. letter_text (m.events + 1) letter ++ happened_line a i before.fault happened) is.address is.instruction
    ∙ ap₂ (λ f h. letter_text (m.events + 1) letter ++ happened_line (nip_at p m).addr (instruction_at p (nip_at p m).addr) f h) is.fault says

-- what holds on the way of `trace`
pub record IsTracing (c : Run) (s : Session) (count k : ℕ) (before after : Option (List Glance))
    (old new : List ℕ) (monitor : Monitor) : Type 0 where
  pub along : IsAlongOn c s k before after monitor
  pub each : MakesEach c s (Trace count) k
  pub told : new ≡ old ++ event_lines c s k

pub none_told : (c : Run) (s : Session) (old : List ℕ) → old ≡ old ++ event_lines c s 0
unfolding event_lines
none_told c s old = sym (append-nil old)

-- the line of the next event
pub one_told : (c : Run) (s : Session) (k : ℕ) (letter : Letter) (before : Before) (happened : Happened)
    (monitor : Monitor) (old text new : List ℕ) → StandsAt c (session_on c s k) monitor →
    letter ≡ letter_at monitor.walk.schedule.now monitor.walk.taken →
    ((r : Run) (m : Moment) → IsAt r m monitor.walk.board.now → IsBefore r.program letter m before) →
    ((r : Run) (m : Moment) → IsAt r m monitor.walk.board.now
    → happened ≡ said_at r (letter_at monitor.walk.schedule.now monitor.walk.taken) m) →
    text ≡ old ++ event_lines c s k → new ≡ text ++ told_line before happened → new ≡ old ++ event_lines c s (k + 1)
unfolding session_on event_lines
one_told c s k letter before happened monitor old text new stands e noted says told more =
    let m : Moment = moment_on c s k in
    let l : Letter = letters_from c.schedule s.taken k in
    let here : letter_at monitor.walk.schedule.now monitor.walk.taken ≡ l = ap₂ letter_at stands.schedule stands.taken in
    let is : IsBefore c.program l m before =
    subst (λ x. IsBefore c.program x m before) (e ∙ here) (noted c m stands.at) in
    let said : happened ≡ said_at c l m = says c m stands.at ∙ ap (λ x. said_at c x m) here in
    more ∙ ap₂ (λ front line. front ++ line) told (told_is c l m before happened is said)
    ∙ append_assoc old (event_lines c s k) (event_line c l m)
    ∙ ap (λ n. old ++ event_lines c s n) (sym (add-one k))

-- the events of `trace` are made, and told
pub trace_carried : (c : Run) (s : Session) (count k : ℕ) (before after : Option (List Glance))
    (old new : List ℕ) (monitor : Monitor) → IsTracing c s count k before after old new monitor →
    stops_on c s (is_made count) k ≡ true → Carried c s (Trace count) before after old new monitor
trace_carried c s count k before after old new monitor traces done = record {
  went = record {
    events = k;
    makes = record { here = done; first = traces.each };
    stands = traces.along.stands;
    saw = traces.along.saw;
  };
  text = traces.told;
}
