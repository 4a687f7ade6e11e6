-- Programs that share a board: the moment of each, the program that runs, and the switches from one to another; and
-- what a letter makes of them.
use Rattle.std.specs.Prelude.{ℕ, zero, suc, Bool, not, List, [], ◌∷◌, ◌++◌, Option, Some, None, ◌≡◌, ◌+◌, ◌-◌, ◌==◌, ◌||◌, is_none, length, slice_get, unwrap_or, if◌then◌else◌}
use Rattle.m88_event.specs.Run.{IsFirst, IsOutcome, outcome_at}
use Rattle.m88_event.specs.Timeline.{Moment, Run, after_letter, is_drained, is_over, opening_moment, record_at, run_with, said_at}
use Rattle.m88_event.specs.declared.letter.Letter.{Letter}
use Rattle.m88_event.specs.declared.outcome.Outcome.{Outcome}
use Rattle.m88_event.specs.declared.record.Record.{Record}
use Rattle.m88_isa.specs.Held.{first_from}
use Rattle.m88_isa.specs.History.{pending_at}
use Rattle.m88_isa.specs.Machine.{Program}
use Rattle.m88_tasks.specs.Letters.{share_letter_at}
use Rattle.m88_tasks.specs.declared.letter.ShareLetter.{ShareLetter}
use Rattle.m88_tasks.specs.declared.letter.ShareLetter.TheVariants as share
use Rattle.m88_tasks.specs.declared.shared.Shared.{Shared}
use Rattle.m88_tasks.specs.declared.shared.Switch.{Switch}
use Rattle.m88_tasks.specs.declared.turned.Turned.{Turned}
use Rattle.m88_tasks.specs.declared.turned.Turned.TheVariants as turned

-- so many programs, by their numbers from 0, with the pages that are absent at first and the most instructions that it
-- may retire, the same for each
pub record Group : Type 0 where
  pub count : ℕ
  pub programs : ℕ → Program
  pub absent : ℕ → Bool
  pub limit : ℕ

-- the run of one of them, whose letters come one by one
abbrev pub own_run : Group → ℕ → Run
own_run g q = run_with (g.programs q) g.absent g.limit []

-- the moment of each program, the letters that each took, the program that runs, the events of the whole board, and the
-- switches so far
pub record SharedMoment : Type 0 where
  pub moments : ℕ → Moment
  pub owns : ℕ → List Letter
  pub current : ℕ
  pub events : ℕ
  pub switches : List Switch

-- a program is over
abbrev pub over_at : Group → (ℕ → Moment) → ℕ → Bool
over_at g moments q = is_over (own_run g q) (moments q)

-- the first that isn't, of so many programs from one on
abbrev pub first_alive : Group → (ℕ → Moment) → ℕ → ℕ → Option ℕ
first_alive g moments from many = first_from from many (λ q. not (over_at g moments q))

-- every program is over
abbrev pub all_over : Group → (ℕ → Moment) → Bool
all_over g moments = is_none (first_alive g moments 0 g.count)

-- every program is over but one, which may be or not
abbrev pub is_alone : Group → (ℕ → Moment) → ℕ → Bool
is_alone g moments current =
    is_none (first_from 0 g.count (λ q. not (q == current || over_at g moments q)))

-- of what is found behind a program, and else from the first one up to it; where neither is, that program again
abbrev pub found_next : Option ℕ → Option ℕ → ℕ → ℕ
found_next (Some q) before current = q
found_next None before current = unwrap_or before current

-- the next program in cyclic order that isn't over; where each is over, the same again
unfoldable pub next_from : Group → (ℕ → Moment) → ℕ → ℕ
next_from g moments current =
    found_next (first_alive g moments (current + 1) (g.count - (current + 1)))
    (first_alive g moments 0 (current + 1)) current

-- before the first event each program is at its opening moment, and the least runs that isn't over
abbrev pub opening_shared : Group → SharedMoment
opening_shared g = record {
  moments = λ q. opening_moment;
  owns = λ q. [];
  current = unwrap_or (first_alive g (λ q. opening_moment) 0 g.count) 0;
  events = 0;
  switches = [];
}

-- one more event is counted
abbrev pub with_shared_event : SharedMoment → SharedMoment
with_shared_event s = record s { events = s.events + 1 }

-- the moments once the program that runs took a letter: its own moves, and no other
abbrev pub moments_then : Group → Letter → (ℕ → Moment) → ℕ → ℕ → Moment
moments_then g letter moments current q =
    if q == current then after_letter (own_run g q) letter (moments q) else moments q

-- and the letters that each took
abbrev pub owns_then : Letter → (ℕ → List Letter) → ℕ → ℕ → List Letter
owns_then letter owns current q = if q == current then owns q ++ (letter ∷ []) else owns q

-- the program that runs once one took a letter: the same, or the next where it is over now
abbrev pub settled_from : Group → (ℕ → Moment) → ℕ → ℕ
settled_from g moments current =
    if over_at g moments current then next_from g moments current else current

-- the program that runs takes a letter
abbrev pub after_own : Group → Letter → SharedMoment → SharedMoment
after_own g letter s = record s {
  moments = moments_then g letter s.moments s.current;
  owns = owns_then letter s.owns s.current;
  current = settled_from g (moments_then g letter s.moments s.current) s.current;
}

-- the switch of the next event: its number, both programs, and the words that are saved at the moment of the one that
-- ran
abbrev pub switch_by : ℕ → ℕ → ℕ → Record → Switch
switch_by event from to saved = record {
  event = event;
  from = from;
  to = to;
  epsr = saved.epsr;
  sxip = saved.sxip;
  snip = saved.snip;
  sfip = saved.sfip;
}

-- the same at a shared moment: to the next program that isn't over
abbrev pub switch_at : Group → SharedMoment → Switch
switch_at g s =
    switch_by (s.events + 1) s.current (next_from g s.moments s.current)
    (record_at (own_run g s.current) (s.moments s.current))

-- how many transactions of the program that runs are pending
abbrev pub pending_in : Group → SharedMoment → ℕ
pending_in g s =
    length (pending_at (g.programs s.current) (s.moments s.current).retired
    (s.moments s.current).done)

-- the letter `t`, the first that applies: it is held where the program that runs has something pending, changes nothing
-- where every other program is over, and else the next program runs
unfoldable pub turn_letter_at : Group → SharedMoment → Turned
turn_letter_at g s =
    if not (is_drained (g.programs s.current) (s.moments s.current))
    then turned.Held (pending_in g s)
    else if is_alone g s.moments s.current then turned.Alone
    else turned.Switched (switch_at g s)

-- a switch joins the others, and its program runs; nothing else changes anything
abbrev pub after_turn_letter : Turned → SharedMoment → SharedMoment
after_turn_letter (turned.Switched switch) s =
    record s { current = switch.to; switches = s.switches ++ (switch ∷ []) }
after_turn_letter _ s = s

-- the shared moment after a letter
abbrev pub after_share : Group → ShareLetter → SharedMoment → SharedMoment
after_share g (share.Own letter) s = with_shared_event (after_own g letter s)
after_share g share.Turn s = with_shared_event (after_turn_letter (turn_letter_at g s) s)

-- what the event of a letter says
abbrev pub turned_at : Group → ShareLetter → SharedMoment → Turned
turned_at g (share.Own letter) s =
    turned.Own (said_at (own_run g s.current) letter (s.moments s.current))
turned_at g share.Turn s = turn_letter_at g s

-- the shared moment after as many events of a run
unfoldable pub shared_after : Group → List ShareLetter → ℕ → SharedMoment
shared_after g schedule zero = opening_shared g
shared_after g schedule (suc k) =
    after_share g (share_letter_at schedule k) (shared_after g schedule k)

-- a shared run has this many events: every program is over then, and not before
abbrev pub IsSharedRun : Group → List ShareLetter → ℕ → Type 0
IsSharedRun g schedule = IsFirst (λ k. all_over g (shared_after g schedule k).moments)

-- what the first of so many programs come to, in order
unfoldable pub outcomes_of : Group → (ℕ → Moment) → ℕ → List Outcome
outcomes_of g moments zero = []
outcomes_of g moments (suc q) =
    outcomes_of g moments q ++ (outcome_at (g.programs q) (moments q) ∷ [])

-- what a shared run comes to whose programs are all over
abbrev pub shared_at : Group → SharedMoment → Shared
shared_at g s = record {
  outcomes = outcomes_of g s.moments g.count;
  switches = s.switches;
  events = s.events;
}

-- what a shared run comes to
pub record IsShared (g : Group) (schedule : List ShareLetter) (o : Shared) : Type 0 where
  pub events : ℕ
  pub run : IsSharedRun g schedule events
  pub value : o ≡ shared_at g (shared_after g schedule events)

-- each outcome is that of the program's own run, under the letters that it took, whatever the other programs are
pub record AreOwnOutcomes (g : Group) (schedule : List ShareLetter) (o : Shared) : Type 0 where
  pub count : length o.outcomes ≡ g.count
  pub own : (q : ℕ) (outcome : Outcome) → slice_get o.outcomes q ≡ Some outcome
      → IsOutcome (run_with (g.programs q) g.absent g.limit ((shared_after g schedule o.events).owns q)) outcome
