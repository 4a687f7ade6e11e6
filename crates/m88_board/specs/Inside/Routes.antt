-- Routes: the letters along which a board goes, when it stops, and what bounds it.
use Rattle.std.specs.Prelude.{ℕ, Bool, not, ◌≤◌, ◌<◌, ◌+◌, ◌-◌, ◌||◌, length}
use Rattle.m88_event.specs.Local.{is_over_by}
use Rattle.m88_event.specs.Run.{letters_from, moment_along}
use Rattle.m88_event.specs.Timeline.{Moment, Run, is_drained, is_over}
use Rattle.m88_event.specs.declared.letter.Letter.{Letter}
use Rattle.m88_event.specs.declared.letter.Letter.TheVariants.{Answer}
use Rattle.m88_isa.specs.Held.{is_pending, most_pending}
use Rattle.m88_board.specs.Board.{BoardView, local_of}
use Rattle.m88_board.specs.Kept.{most_events}
use Rattle.m88_board.specs.Walks.{IsBounded, IsNoHeavier, is_enough}
use Rattle.m88_board.specs.declared.route.Route.{Route}
use Rattle.m88_board.specs.declared.route.Route.TheVariants as route

-- how many letters of the run were taken before its first event
abbrev pub taken_before : Route → ℕ
taken_before (route.Run schedule taken until) = taken
taken_before route.Answers = 0

-- its letters
abbrev pub letters_by : Route → ℕ → Letter
letters_by (route.Run schedule taken until) = letters_from schedule.now taken
letters_by route.Answers = λ k. Answer

-- it stops at a moment, after so many events
abbrev pub stops_at_moment : Route → Run → ℕ → Moment → Bool
stops_at_moment (route.Run schedule taken until) = λ r made m. is_enough until r.program made m || is_over r m
stops_at_moment route.Answers = λ r made m. is_drained r.program m

-- its moments, from one on
abbrev pub moments_by : Route → Run → Moment → ℕ → Moment
moments_by route r = moment_along r (letters_by route)

-- whether it stops after so many events
abbrev pub stops_at_event : Route → Run → Moment → ℕ → Bool
stops_at_event route r m k = stops_at_moment route r k (moments_by route r m k)

-- by what is seen of the board nothing is left to do
abbrev pub has_to_rest : Route → BoardView → Bool
has_to_rest (route.Run schedule taken until) = λ b. is_over_by b.limit (local_of b)
has_to_rest route.Answers = λ b. not (is_pending b.pending)

-- its events can be counted: the walk is bounded, or as many more are counted as transactions can be pending
abbrev pub CanBeCounted : Route → BoardView → Type 0
CanBeCounted (route.Run schedule taken until) = λ b. IsBounded schedule.now taken b
CanBeCounted route.Answers = λ b. b.events + most_pending < most_events

-- answers beside a run's letters: the events so far and what is pending are no more than before, nor are those that a
-- run may still have
pub record AnswersBeside (old new : BoardView) : Type 0 where
  pub bounded : new.events + length new.pending ≤ old.events + length old.pending
  pub lighter : IsNoHeavier old new

-- what bounds it behind some of its events; each event of a run took a letter
abbrev pub IsBoundedBy : Route → BoardView → BoardView → Type 0
IsBoundedBy (route.Run schedule taken until) = λ old new. IsBounded schedule.now (taken + (new.events - old.events)) new
IsBoundedBy route.Answers = AnswersBeside
