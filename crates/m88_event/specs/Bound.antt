-- How many events a run may still have, by what is seen of a board and how many letters are taken.
use Rattle.std.specs.Prelude.{ℕ, Bool, not, List, ◌+◌, ◌-◌, ◌*◌, ◌%◌, ◌==◌, ◌||◌, is_some, length, nat_lt, if◌then◌else◌}
use Rattle.m88_isa.specs.Held.{is_pending}
use Rattle.m88_event.specs.Local.{Local}
use Rattle.m88_event.specs.declared.letter.Letter.{Letter}

-- 1 where a mark is set
abbrev pub one_if : Bool → ℕ
one_if mark = if mark then 1 else 0

-- what may still happen but idling and holding: an instruction counts as four, for itself, two accesses and a bubble
unfoldable pub fuel : ℕ → Local → ℕ
fuel limit l = 4 * (limit - l.retired) + length l.pending + one_if l.bubble + one_if (not (is_some l.ended))

-- the events that may yet pass before the next that makes the fuel less
abbrev pub turns_left : Bool → Bool → Bool → ℕ
turns_left inside answer pending = if inside || answer then 1 else if pending then 2 else 0

-- the same after so many events, by what is seen of a board
abbrev pub phase : List Letter → ℕ → Local → ℕ
phase schedule k l = turns_left (nat_lt k (length schedule)) ((k - length schedule) % 2 == 0) (is_pending l.pending)

-- a bound on the events that are left after as many events
unfoldable pub weight : List Letter → ℕ → ℕ → Local → ℕ
weight schedule limit k l = (length schedule - k) + 2 * fuel limit l + phase schedule k l
