-- What a walk of the monitor's, an event of it and draining make of a session.
use Rattle.std.specs.Prelude.{ℕ, Bool, true, false, not, List, [], ◌∷◌, Option, ◌≡◌, ◌<◌, ◌≤◌, ◌+◌, ◌||◌, nat_lt}
use Rattle.std.proofs.Common.{Bor, add-one, arith, refl, sym, ap, ap₂, ◌∙◌, subst}
use Rattle.std.proofs.lemmas.Bool.{le-ltb, lt-ltb}
use Rattle.m88_event.specs.Letters.{letter_at}
use Rattle.m88_event.specs.Run.{IsFirst, NotBefore, letters_from, moment_along}
use Rattle.m88_event.specs.Timeline.{Moment, Run, after_letter, is_over}
use Rattle.m88_event.specs.declared.letter.Letter.{Letter}
use Rattle.m88_isa.specs.Machine.{Program}
use Rattle.m88_board.proofs.Laws.{not_yet, saw_none, saw_then}
use Rattle.m88_board.specs.Glances.{Saw, glance_at, glances_along}
use Rattle.m88_board.specs.Calls.{StaysOnRun}
use Rattle.m88_board.specs.Moves.{IsAlong, IsAt, IsStep}
use Rattle.m88_board.specs.Walks.{is_made, moments_from, stops_after}
use Rattle.m88_board.specs.declared.glance.Glance.{Glance}
use Rattle.m88_session.specs.Inside.Fronts.{MakesEach}
use Rattle.m88_session.specs.Session.{Session, moment_on, session_on, stops_command, stops_on}
use Rattle.m88_session.specs.Inside.SessionKept.{StandsAt}
use Rattle.m88_session.specs.declared.monitor.Monitor.{Monitor}
use Rattle.m88_session.specs.declared.script.MonitorCommand.{MonitorCommand}

-- a test of a walk that stops
pub or_true : (a b : Bool) → b ≡ true → (a || b) ≡ true
or_true true b h = refl
or_true false b h = h

-- a session by how many letters were taken
with_taken : Session → ℕ → Session
with_taken s n = record s { taken = n }

module _ (c : Run) (s : Session) where
  -- a walk made some events before it was to stop, or all of them
  abbrev pub BeforeFrom : (Program → ℕ → Moment → Bool) → (before after : Option (List Glance)) → ℕ → Type 0
  BeforeFrom enough before after taken =
      (k : ℕ) × NotBefore (stops_after enough c taken s.moment) k
      × Saw before after (glances_along c.program (moments_from c taken s.moment) k)

  abbrev pub WalkedFrom : (Program → ℕ → Moment → Bool) → (before after : Option (List Glance)) → Monitor → ℕ → Type 0
  WalkedFrom enough before after new taken =
      (k : ℕ) × IsFirst (stops_after enough c taken s.moment) k
      × IsAlong c (moments_from c taken s.moment) k before after new.walk.board.now
      × (new.walk.taken ≡ taken + k)

  -- so the session stands where the walk stopped
  pub record Walked (enough : Program → ℕ → Moment → Bool) (before after : Option (List Glance)) (new : Monitor)
      : Type 0 where
    pub events : ℕ
    pub first : IsFirst (stops_on c s enough) events
    pub saw : Saw before after (glances_along c.program (moment_on c s) events)
    pub stands : StandsAt c (session_on c s events) new

  pub walked_on : (enough : Program → ℕ → Moment → Bool) (old new : Monitor) (before after : Option (List Glance))
      → StandsAt c s old → new.breakpoints.items ≡ old.breakpoints.items → StaysOnRun old.walk new.walk
      → WalkedFrom enough before after new old.walk.taken → Walked enough before after new
  unfolding session_on
  walked_on enough old new before after stands breakpoints stays walked =
      let own = subst (WalkedFrom enough before after new) stands.taken walked in
      record {
        events = own.0;
        first = own.1;
        saw = own.2.saw;
        stands = record {
          schedule = ap (λ (x : Bor (List Letter)). x.now) stays.schedule ∙ stands.schedule;
          at = own.2.at;
          taken = own.3;
          breakpoints = breakpoints ∙ stands.breakpoints;
        };
      }

  -- what holds after some events of the run's letters
  pub record IsAlongOn (k : ℕ) (before after : Option (List Glance)) (monitor : Monitor) : Type 0 where
    pub stands : StandsAt c (session_on c s k) monitor
    pub saw : Saw before after (glances_along c.program (moment_on c s) k)

  same_session : session_on c s 0 ≡ s
  unfolding session_on moment_along with_taken
  same_session = let none : s.taken + 0 ≡ s.taken = omega arith in ap (with_taken s) none

  -- at first
  pub along_start : (seen : Option (List Glance)) (monitor : Monitor) → StandsAt c s monitor → IsAlongOn 0 seen seen monitor
  unfolding glances_along
  along_start seen monitor stands = record {
    stands = subst (λ t. StandsAt c t monitor) (sym same_session) stands;
    saw = saw_none seen;
  }

  -- and after one more
  pub along_next : (k : ℕ) (before here after : Option (List Glance)) (old new : Monitor) → IsAlongOn k before here old
      → IsStep c (letter_at old.walk.schedule.now old.walk.taken) (moment_on c s k) here after new.walk.board.now
      → StaysOnRun old.walk new.walk → new.walk.taken ≡ old.walk.taken + 1
      → new.breakpoints.items ≡ old.breakpoints.items → IsAlongOn (k + 1) before after new
  unfolding session_on moment_along glances_along
  along_next k before here after old new along made stays taken breakpoints =
      let stands = along.stands in
      let last : Moment = moment_on c s k in
      let step : IsStep c (letters_from c.schedule s.taken k) last here after new.walk.board.now =
      subst (λ (l : Letter). IsStep c l last here after new.walk.board.now) (ap₂ letter_at stands.schedule stands.taken) made in
      let place = stands.taken in
      subst (λ n. IsAlongOn n before after new) (sym (add-one k)) (record {
        stands = record {
          schedule = ap (λ (x : Bor (List Letter)). x.now) stays.schedule ∙ stands.schedule;
          at = step.at;
          taken = omega (arith, taken, place);
          breakpoints = breakpoints ∙ stands.breakpoints;
        };
        saw = saw_then before here after (glances_along c.program (moment_on c s) k)
            (glance_at c.program (after_letter c (letters_from c.schedule s.taken k) last) ∷ []) along.saw step.saw;
      })

  -- the board stands at the session's moment
  pub at_on : (k : ℕ) (monitor : Monitor) → StandsAt c (session_on c s k) monitor
      → IsAt c (moment_on c s k) monitor.walk.board.now
  unfolding session_on
  at_on k monitor stands = stands.at

  -- the run is over where the board says so
  pub over_on : (k : ℕ) (monitor : Monitor) (result : Bool) → StandsAt c (session_on c s k) monitor
      → ((r : Run) (m : Moment) → IsAt r m monitor.walk.board.now → result ≡ is_over r m)
      → is_over c (moment_on c s k) ≡ result
  over_on k monitor result stands says = sym (says c (moment_on c s k) (at_on k monitor stands))

  -- one event more is wanted before all are made, where the run isn't over; and none else
  pub wants_more : (most k : ℕ) → k < most → is_over c (moment_on c s k) ≡ false
      → stops_on c s (is_made most) k ≡ false
  wants_more most k h goes = ap₂ (λ a b. not a || b) (lt-ltb k most h) goes

  pub wants_none : (most k : ℕ) → is_over c (moment_on c s k) ≡ true
      → stops_on c s (is_made most) k ≡ true
  wants_none most k over = or_true (not (nat_lt k most)) _ over

  pub made_all : (most k : ℕ) → most ≤ k → stops_on c s (is_made most) k ≡ true
  made_all most k h = ap (λ a. not a || is_over c (moment_on c s k)) (le-ltb k most h)

  -- a command went on before one event more
  pub each_next : (command : MonitorCommand) (k : ℕ) → MakesEach c s command k → stops_command c s command k ≡ false
      → MakesEach c s command (k + 1)
  each_next command k each more =
      subst (λ n. MakesEach c s command n) (sym (add-one k)) (not_yet (stops_command c s command) k each more)

  pub each_none : (command : MonitorCommand) → MakesEach c s command 0
  each_none command = λ k h. absurd (omega (arith, h))
