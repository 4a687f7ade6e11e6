-- A run and its timeline: its moments, each a count of the instructions that are retired and one of the transactions
-- that are done along a history, and what a letter makes of one along the history of the sequential machine.
use Rattle.std.specs.Prelude.{ℕ, zero, suc, Bool, true, false, not, List, [], ◌∷◌, ◌++◌, Option, Some, None, ◌+◌, ◌≤◌, ◌==◌, ◌&&◌, ◌||◌, drop, length, if◌then◌else◌}
use Rattle.m88_base.specs.Pages.{every_page}
use Rattle.m88_base.specs.Slot.{no_slot}
use Rattle.m88_base.specs.declared.slot.Slot.{Slot}
use Rattle.m88_isa.specs.History.{pending_at, transaction_count, transactions}
use Rattle.m88_isa.specs.Machine.{Program, State, Turn, state, stops, turn_at}
use Rattle.m88_isa.specs.declared.planned.Access.{Access}
use Rattle.m88_event.specs.Choice.{Choice, choice_of, end_by, evicts, faults, finishes, issues, passes, replies, said, serves, touches_page}
use Rattle.m88_event.specs.Shadow.{nip_of, retired_pointer}
use Rattle.m88_event.specs.Situation.{Situation, record_of}
use Rattle.m88_event.specs.declared.happened.End.{End}
use Rattle.m88_event.specs.declared.happened.End.TheVariants.{Limit}
use Rattle.m88_event.specs.declared.happened.Happened.{Happened}
use Rattle.m88_event.specs.declared.letter.Letter.{Letter}
use Rattle.m88_event.specs.declared.record.Record.{Record}

-- a run: its program, which has its mode, the pages that are absent at first, the most instructions that it retires,
-- and the letters that its events begin with
pub record Run : Type 0 where
  pub program : Program
  pub absent : ℕ → Bool
  pub limit : ℕ
  pub schedule : List Letter

-- the run of a program with these pages, this limit and these letters
abbrev pub run_with : Program → (ℕ → Bool) → ℕ → List Letter → Run
run_with p absent limit schedule = record { program = p; absent = absent; limit = limit; schedule = schedule }

-- the instructions retired, the transactions answered or finished, the mark that the next fetched instruction is
-- passed over, the mark that the program has ended, the mark that every page was made absent, the pages supplied since
-- then or else since the start, the events, the transactions answered with data, and the records of the data faults
pub record Moment : Type 0 where
  pub retired : ℕ
  pub done : ℕ
  pub bubble : Bool
  pub ended : Bool
  pub evicted : Bool
  pub supplied : ℕ → Bool
  pub events : ℕ
  pub answers : ℕ
  pub records : List Record

-- before the first event
abbrev pub opening_moment : Moment
opening_moment = record {
  retired = 0;
  done = 0;
  bubble = false;
  ended = false;
  evicted = false;
  supplied = λ page. false;
  events = 0;
  answers = 0;
  records = [];
}

-- a history of a program: the state after so many instructions, and the transactions that these made, the oldest first
pub record History : Type 0 where
  pub program : Program
  pub state : ℕ → State
  pub made : ℕ → List Access

-- the history of the sequential machine
abbrev pub history : Program → History
history p = record { program = p; state = state p; made = transactions p }

-- the instruction retired last
unfoldable pub xip_along : History → ℕ → Slot
xip_along h zero = no_slot
xip_along h (suc n) = retired_pointer (h.state n).pc

-- the instruction that the sequential machine retired last
abbrev pub xip_at : Program → ℕ → Slot
xip_at p = xip_along (history p)

-- NIP at a moment: the next instruction, or the one that is passed over
abbrev pub nip_at : Program → Moment → Slot
nip_at p m = nip_of p m.bubble (xip_at p m.retired) (state p m.retired).pc

-- the pages that are absent: those that were at first, or every page once all were made absent, but for those that were
-- supplied since
abbrev pub absent_at : Run → Moment → ℕ → Bool
absent_at r m page = (if m.evicted then every_page page else r.absent page) && not (m.supplied page)

-- how a turn ends a history; of one that goes on it is the limit, which no moment with the mark of the end asks for
abbrev pub end_of_turn : Turn → End
end_of_turn (stops stop) = end_by stop
end_of_turn turn = Limit

-- how the program has ended, if it has: as its history does
abbrev pub end_along : History → Moment → Option End
end_along h m = if m.ended then Some (end_of_turn (turn_at h.program (h.state m.retired))) else None

-- how the program has ended by the history of the sequential machine
abbrev pub end_at : Program → Moment → Option End
end_at p = end_along (history p)

-- no more may be issued: the program has ended, or as many instructions are retired as the limit
abbrev pub is_idle : Run → Moment → Bool
is_idle r m = m.ended || m.retired == r.limit

-- the transactions that were made and aren't done
abbrev pub pending_along : History → Moment → List Access
pending_along h m = drop m.done (h.made m.retired)

-- what the next event depends on
abbrev pub situation_along : History → Run → Moment → Situation
situation_along h r m = record {
  regs = (h.state m.retired).regs;
  carry = (h.state m.retired).carry;
  mxm = (h.state m.retired).mxm;
  pc = (h.state m.retired).pc;
  next = (h.state m.retired).next;
  xip = xip_along h m.retired;
  bubble = m.bubble;
  idle = is_idle r m;
  pending = pending_along h m;
  absent = absent_at r m;
  event = m.events + 1;
}

-- what the next event depends on along the history of the sequential machine
unfoldable pub situation_at : Run → Moment → Situation
situation_at r = situation_along (history r.program) r

-- what a choice makes of a moment with these pending transactions, but for the count of events; a data fault leaves
-- its record, supplies the pages of all of them and finishes them; where nothing is done or the next instruction is
-- held, it stays
abbrev pub after_choice : List Access → Choice → Record → Moment → Moment
after_choice pending passes fault m = record m { bubble = false }
after_choice pending (issues change) fault m = record m { retired = m.retired + 1; bubble = change.bubble }
after_choice pending (serves byte) fault m = record m { retired = m.retired + 1; bubble = false }
after_choice pending (finishes stop) fault m = record m { ended = true }
after_choice pending replies fault m = record m { done = m.done + 1; answers = m.answers + 1 }
after_choice pending faults fault m = record m {
  records = m.records ++ (fault ∷ []);
  supplied = λ page. m.supplied page || touches_page pending page;
  done = m.done + length pending;
}
after_choice pending evicts fault m = record m { evicted = true; supplied = λ page. false }
after_choice pending _ fault m = m

-- one more event is counted
abbrev pub with_event : Moment → Moment
with_event m = record m { events = m.events + 1 }

-- what a letter makes the board do at a moment
abbrev pub choice_at : Run → Letter → Moment → Choice
choice_at r letter m = choice_of r.program letter (situation_at r m)

-- the record that a data fault would leave there
abbrev pub record_at : Run → Moment → Record
record_at r m = record_of r.program (situation_at r m)

-- the moment after a letter
unfoldable pub after_letter : Run → Letter → Moment → Moment
after_letter r letter m =
    with_event (after_choice (pending_at r.program m.retired m.done) (choice_at r letter m) (record_at r m) m)

-- what the event of a letter says
unfoldable pub said_at : Run → Letter → Moment → Happened
said_at r letter m = said (choice_at r letter m) (record_at r m)

-- nothing is pending: all transactions are done
abbrev pub is_drained_along : History → Moment → Bool
is_drained_along h m = m.done == length (h.made m.retired)

-- the run is over: nothing is pending, and no more may be issued
abbrev pub is_over_along : History → Run → Moment → Bool
is_over_along h r m = is_drained_along h m && is_idle r m

-- nothing is pending along the history of the sequential machine
abbrev pub is_drained : Program → Moment → Bool
is_drained p = is_drained_along (history p)

-- the run along the history of the sequential machine is over
abbrev pub is_over : Run → Moment → Bool
is_over r = is_over_along (history r.program) r

-- no more transactions are done than were made, as at every moment that a run comes to
abbrev pub DoneWereMade : Program → Moment → Type 0
DoneWereMade p m = m.done ≤ transaction_count p m.retired
