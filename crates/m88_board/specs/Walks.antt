-- Walks: a board that goes along the letters of a run, when it stops, and what bounds it.
use Rattle.std.specs.Prelude.{ℕ, Bool, false, not, List, ◌≤◌, ◌+◌, ◌*◌, ◌==◌, ◌&&◌, ◌||◌, length, nat_lt}
use Rattle.std.specs.List.{list_any}
use Rattle.m88_event.specs.Bound.{weight}
use Rattle.m88_event.specs.Letters.{most_letters}
use Rattle.m88_event.specs.Run.{letters_from, moment_along}
use Rattle.m88_event.specs.Timeline.{Moment, Run, is_over, nip_at}
use Rattle.m88_event.specs.declared.letter.Letter.{Letter}
use Rattle.m88_isa.specs.Machine.{Program}
use Rattle.m88_board.specs.Board.{BoardView, local_of}
use Rattle.m88_board.specs.Kept.{most_retired}
use Rattle.m88_board.specs.declared.until.Until.{Until}
use Rattle.m88_board.specs.declared.until.Until.TheVariants.{Over, Made, Breakpoint}

-- NIP is valid with one of these addresses
abbrev pub is_at_breakpoint : Program → List ℕ → Moment → Bool
is_at_breakpoint p addresses m = (nip_at p m).v && list_any (λ a. a == (nip_at p m).addr) addresses

-- a walk isn't to stop at a moment after so many events
abbrev pub never : Program → ℕ → Moment → Bool
never p made m = false

-- it is to stop after as many as it was asked for
abbrev pub is_made : ℕ → Program → ℕ → Moment → Bool
is_made most p made m = not (nat_lt made most)

-- it is to stop behind one at least where the next instruction stands at a breakpoint
abbrev pub is_halt : List ℕ → Program → ℕ → Moment → Bool
is_halt addresses p made m = nat_lt 0 made && is_at_breakpoint p addresses m

-- it is to go no further, by when it stops
abbrev pub is_enough : Until → Program → ℕ → Moment → Bool
is_enough Over = never
is_enough (Made most) = is_made most
is_enough (Breakpoint addresses) = is_halt addresses.now

-- the moments of a walk from a moment on, along the letters of a run behind those that are taken
abbrev pub moments_from : Run → ℕ → Moment → ℕ → Moment
moments_from r taken = moment_along r (letters_from r.schedule taken)

-- whether it stops after so many events: it is to go no further, or the run is over
abbrev pub stops_after : (Program → ℕ → Moment → Bool) → Run → ℕ → Moment → ℕ → Bool
stops_after enough r taken m k =
    enough r.program k (moments_from r taken m k) || is_over r (moments_from r taken m k)

-- the most events of a run
abbrev pub most_events_of : List Letter → ℕ → ℕ
most_events_of schedule limit = length schedule + 8 * limit + 8

-- what bounds a walk: it began before the first event of its board, each letter that was taken made an event, and the
-- events so far and those that the run may still have are no more than the most of a run
pub record IsBounded (schedule : List Letter) (taken : ℕ) (b : BoardView) : Type 0 where
  pub small : b.limit ≤ most_retired
  pub within : b.retired ≤ b.limit
  pub few : length schedule ≤ most_letters
  pub made : taken ≤ b.events
  pub room : b.events + weight schedule b.limit taken (local_of b) ≤ most_events_of schedule b.limit

-- some events more or none: by any letters of a run, the events so far and those that it may still have are no more
-- than before; and no more instructions are retired than the limit, if they weren't before
pub record IsNoHeavier (old new : BoardView) : Type 0 where
  pub counted : old.events ≤ new.events
  pub within : old.retired ≤ old.limit → new.retired ≤ new.limit
  pub weights : (schedule : List Letter) (taken : ℕ)
      → new.events + weight schedule new.limit taken (local_of new)
      ≤ old.events + weight schedule old.limit taken (local_of old)
