-- What a board looks like from outside, with no word of the program's beginning: the state that its pending
-- transactions lead to, memory as it is now, these transactions, marks, absent pages, counts and records; and what a
-- letter makes of it.
use Rattle.std.specs.Prelude.{ℕ, Bool, false, not, List, [], ◌∷◌, ◌++◌, Option, Some, None, ◌+◌, ◌==◌, ◌&&◌, ◌||◌, drop, is_some, length, slice_index, take, if◌then◌else◌}
use Rattle.m88_base.specs.Pages.{every_page}
use Rattle.m88_base.specs.declared.slot.Slot.{Slot}
use Rattle.m88_isa.specs.Bus.{bus_after_all, waits_for}
use Rattle.m88_isa.specs.History.{Completed, after_turn, bus_at, change_accesses, completed_state, pending_at}
use Rattle.m88_isa.specs.Held.{is_pending}
use Rattle.m88_isa.specs.Machine.{Program, changes, outputs, state}
use Rattle.m88_isa.specs.declared.planned.Access.{Access}
use Rattle.m88_event.specs.Choice.{Choice, choice_of, end_by, evicts, faults, finishes, holds, idles, issues, passes, replies, said, serves, touches_page}
use Rattle.m88_event.specs.Shadow.{retired_pointer}
use Rattle.m88_event.specs.Situation.{Situation, record_of}
use Rattle.m88_event.specs.Timeline.{History, Moment, Run, absent_at, end_along, history, pending_along, xip_along}
use Rattle.m88_event.specs.declared.happened.End.{End}
use Rattle.m88_event.specs.declared.happened.Happened.{Happened}
use Rattle.m88_event.specs.declared.letter.Letter.{Letter}
use Rattle.m88_event.specs.declared.record.Record.{Record}

-- the state once the pending transactions are done in order, memory by words as it is now, the pending transactions,
-- XIP, the mark of a bubble, how the program ended, if it has, the absent pages, the counts of instructions retired,
-- transactions done, events and transactions answered with data, and the records of the data faults
pub record Local : Type 0 where
  pub completed : Completed
  pub bus : ℕ → ℕ
  pub pending : List Access
  pub xip : Slot
  pub bubble : Bool
  pub ended : Option End
  pub absent : ℕ → Bool
  pub retired : ℕ
  pub done : ℕ
  pub events : ℕ
  pub answers : ℕ
  pub records : List Record

-- what the next event depends on
unfoldable pub situation_of : ℕ → Local → Situation
situation_of limit l = record {
  regs = l.completed.regs;
  carry = l.completed.carry;
  mxm = l.completed.mxm;
  pc = l.completed.pc;
  next = l.completed.next;
  xip = l.xip;
  bubble = l.bubble;
  idle = is_some l.ended || l.retired == limit;
  pending = l.pending;
  absent = l.absent;
  event = l.events + 1;
}

-- what a choice makes of it, but for the count of events
abbrev pub move_by : Choice → Record → Local → Local
move_by idles fault l = l
move_by passes fault l = record l { bubble = false }
move_by (holds why) fault l = l
move_by (issues change) fault l = record l {
  completed = after_turn (changes change) l.completed;
  pending = l.pending ++ change_accesses change;
  xip = retired_pointer l.completed.pc;
  bubble = change.bubble;
  retired = l.retired + 1;
}
move_by (serves byte) fault l = record l {
  completed = after_turn (outputs byte) l.completed;
  xip = retired_pointer l.completed.pc;
  bubble = false;
  retired = l.retired + 1;
}
move_by (finishes stop) fault l = record l { ended = Some (end_by stop) }
move_by replies fault l = record l {
  bus = bus_after_all (take 1 l.pending) l.bus;
  pending = drop 1 l.pending;
  done = l.done + 1;
  answers = l.answers + 1;
}
move_by faults fault l = record l {
  bus = bus_after_all l.pending l.bus;
  pending = [];
  absent = λ page. l.absent page && not (touches_page l.pending page);
  done = l.done + length l.pending;
  records = l.records ++ (fault ∷ []);
}
move_by evicts fault l = record l { absent = every_page }

-- one more event is counted
abbrev pub with_move_counted : Local → Local
with_move_counted l = record l { events = l.events + 1 }

-- what a letter makes the board do
abbrev pub choice_by : Program → ℕ → Letter → Local → Choice
choice_by p limit letter l = choice_of p letter (situation_of limit l)

-- the record that a data fault would leave
abbrev pub record_by : Program → ℕ → Local → Record
record_by p limit l = record_of p (situation_of limit l)

-- what a letter makes of it
unfoldable pub move : Program → ℕ → Letter → Local → Local
move p limit letter l = with_move_counted (move_by (choice_by p limit letter l) (record_by p limit l) l)

-- what the event of a letter says
unfoldable pub said_by : Program → ℕ → Letter → Local → Happened
said_by p limit letter l = said (choice_by p limit letter l) (record_by p limit l)

-- nothing is pending, and no more may be issued
abbrev pub is_over_by : ℕ → Local → Bool
is_over_by limit l = not (is_pending l.pending) && (is_some l.ended || l.retired == limit)

-- what is shown of a register: one that a pending load is to fill has no value yet, every other has that of the state
abbrev pub register_seen : List Access → List ℕ → ℕ → Option ℕ
register_seen pending regs register = if waits_for pending register then None else Some (slice_index regs register)

-- the same of a register at a moment: one that waits has no value, every other that of the history
abbrev pub register_shown : Program → Moment → ℕ → Option ℕ
register_shown p m = register_seen (pending_at p m.retired m.done) (state p m.retired).regs

-- what a moment of a history looks like: `words` is memory by words after so many instructions, of whose transactions
-- the first so many are done
abbrev pub local_along : History → (ℕ → ℕ → ℕ → ℕ) → Run → Moment → Local
local_along h words r m = record {
  completed = completed_state (h.state m.retired);
  bus = words m.retired m.done;
  pending = pending_along h m;
  xip = xip_along h m.retired;
  bubble = m.bubble;
  ended = end_along h m;
  absent = absent_at r m;
  retired = m.retired;
  done = m.done;
  events = m.events;
  answers = m.answers;
  records = m.records;
}

-- what a moment of the sequential machine's history looks like
unfoldable pub local_at : Run → Moment → Local
local_at r = local_along (history r.program) (bus_at r.program) r
