-- What a watch is shown of a board, and of the moments of a timeline.
use Rattle.std.specs.Prelude.{ℕ, zero, suc, Bool, false, List, [], ◌∷◌, ◌++◌, Option, Some, None, ◌≡◌, length, nat_lt, if◌then◌else◌}
use Rattle.m88_event.specs.Timeline.{Moment, nip_at}
use Rattle.m88_isa.specs.Machine.{Program}
use Rattle.m88_board.specs.Board.{BoardView}
use Rattle.m88_board.specs.declared.glance.Glance.{Glance}

-- what is noted of a board: its events, the instructions that were retired, the transactions that were answered or
-- finished, and NIP
abbrev pub glance_of : BoardView → Glance
glance_of b = record { events = b.events; issued = b.retired; done = b.done; next = b.slots.nip }

-- what is noted of a moment
abbrev pub glance_at : Program → Moment → Glance
glance_at p m = record {
  events = m.events;
  issued = m.retired;
  done = m.done;
  next = nip_at p m;
}

-- of moments in order, each behind the first of so many
unfoldable pub glances_along : Program → (ℕ → Moment) → ℕ → List Glance
glances_along p moments zero = []
glances_along p moments (suc k) = glances_along p moments k ++ glance_at p (moments (suc k)) ∷ []

-- a watch was shown so many glances more, in order: where it tells now what it was shown, it told before too
abbrev pub Saw : Option (List Glance) → Option (List Glance) → List Glance → Type 0
Saw before None glances = Unit {0}
Saw None (Some after) glances = ⊥
Saw (Some before) (Some after) glances = after ≡ before ++ glances

-- the most glances that a watch in memory keeps
abbrev pub most_glances : ℕ
most_glances = 256

-- the glances that it keeps, and whether these are all that it was shown
pub record KeptGlances : Type 0 where
  pub glances : List Glance
  pub whole : Bool

-- the same after one more
abbrev pub kept_after : Glance → KeptGlances → KeptGlances
kept_after glance w =
    if nat_lt (length w.glances) most_glances then record w { glances = w.glances ++ glance ∷ [] }
    else record w { whole = false }

-- it tells what it was shown where it keeps all of it
abbrev pub told : KeptGlances → Option (List Glance)
told w = if w.whole then Some w.glances else None
