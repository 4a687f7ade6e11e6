-- Going along letters, one event after the other: from a moment to the first at which a condition holds. A whole run
-- goes along the letters of a schedule to the first moment that is over, and comes to an outcome there; draining goes
-- along letters `r` to the first at which nothing is pending.
use Rattle.std.specs.Prelude.{ℕ, zero, suc, Bool, true, false, List, ◌≡◌, ◌<◌, ◌+◌, unwrap_or}
use Rattle.m88_isa.specs.Bus.{changed_words, in_words}
use Rattle.m88_isa.specs.Machine.{Program, opening}
use Rattle.m88_event.specs.Letters.{letter_at}
use Rattle.m88_event.specs.Local.{Local, is_over_by}
use Rattle.m88_event.specs.Timeline.{History, Moment, Run, after_letter, end_along, history, is_drained, is_over, opening_moment}
use Rattle.m88_event.specs.declared.happened.End.TheVariants.{Limit}
use Rattle.m88_event.specs.declared.letter.Letter.{Letter}
use Rattle.m88_event.specs.declared.letter.Letter.TheVariants.{Answer}
use Rattle.m88_event.specs.declared.outcome.Outcome.{Outcome}

-- the moment after as many of some letters, from a moment on
unfoldable pub moment_along : Run → (ℕ → Letter) → Moment → ℕ → Moment
moment_along r letters m zero = m
moment_along r letters m (suc k) = after_letter r (letters k) (moment_along r letters m k)

-- a condition doesn't hold after fewer events than these
abbrev pub NotBefore : (ℕ → Bool) → ℕ → Type 0
NotBefore holds events = (k : ℕ) → k < events → holds k ≡ false

-- it holds after so many events, and not before
pub record IsFirst (holds : ℕ → Bool) (events : ℕ) : Type 0 where
  pub here : holds events ≡ true
  pub first : NotBefore holds events

-- the letters of a run behind the first of so many
abbrev pub letters_from : List Letter → ℕ → ℕ → Letter
letters_from schedule taken k = letter_at schedule (taken + k)

-- the moment of a run after as many events
abbrev pub moment_after : Run → ℕ → Moment
moment_after r = moment_along r (letter_at r.schedule) opening_moment

-- before each of so many events the run wasn't over
abbrev pub IsRunning : Run → ℕ → Type 0
IsRunning r = NotBefore (λ k. is_over r (moment_after r k))

-- the run has this many events: it is over then, and not before
abbrev pub HasEvents : Run → ℕ → Type 0
HasEvents r = IsFirst (λ k. is_over r (moment_after r k))

-- a run of anything that looks like a board has this many events, by what is seen after each count of them: it is over
-- then, and not before
abbrev pub HasEventsBy : ℕ → (ℕ → Local) → ℕ → Type 0
HasEventsBy limit seen = IsFirst (λ k. is_over_by limit (seen k))

-- what a run comes to that is over at a moment: the end of the history where the program ended, and else the limit;
-- registers, carry, output and memory of the history after as many instructions; the counts and records of the moment
abbrev pub outcome_along : History → Moment → Outcome
outcome_along h m = record {
  end = unwrap_or (end_along h m) Limit;
  retired = m.retired;
  regs = (h.state m.retired).regs;
  carry = (h.state m.retired).carry;
  out = (h.state m.retired).out;
  changed = changed_words (in_words (opening h.program).memory) (in_words (h.state m.retired).memory);
  events = m.events;
  answers = m.answers;
  records = m.records;
}

-- what a run along the history of the sequential machine comes to
unfoldable pub outcome_at : Program → Moment → Outcome
outcome_at p = outcome_along (history p)

-- what is seen of a board that is over comes to, against the words of memory at first
unfoldable pub outcome_by : (ℕ → ℕ) → Local → Outcome
outcome_by before l = record {
  end = unwrap_or l.ended Limit;
  retired = l.retired;
  regs = l.completed.regs;
  carry = l.completed.carry;
  out = l.completed.out;
  changed = changed_words before l.completed.bus;
  events = l.events;
  answers = l.answers;
  records = l.records;
}

-- what a run comes to
pub record IsOutcome (r : Run) (o : Outcome) : Type 0 where
  pub events : ℕ
  pub run : HasEvents r events
  pub value : o ≡ outcome_at r.program (moment_after r events)

-- the moment after as many letters `r`
abbrev pub answered_after : Run → Moment → ℕ → Moment
answered_after r = moment_along r (λ k. Answer)

-- before each of so many letters `r` something was pending
abbrev pub IsDraining : Run → Moment → ℕ → Type 0
IsDraining r m = NotBefore (λ k. is_drained r.program (answered_after r m k))

-- so many letters `r` drain a moment: nothing is pending then, and not before
abbrev pub IsDrain : Run → Moment → ℕ → Type 0
IsDrain r m = IsFirst (λ k. is_drained r.program (answered_after r m k))
