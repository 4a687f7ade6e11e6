-- A board as contracts see it, and what it looks like from outside: the state that its pending transactions lead to is
-- computed from them.
use Rattle.std.specs.Prelude.{ℕ, Bool, not, List, ◌+◌, ◌==◌, ◌||◌, is_some, if◌then◌else◌}
use Rattle.m88_ctrl.specs.ControlRegisters.{ControlRegisters, carry_of, mxm_of}
use Rattle.m88_event.specs.Local.{Local}
use Rattle.m88_isa.specs.Address.{after_bytes}
use Rattle.m88_isa.specs.Bus.{Cells, after_accesses}
use Rattle.m88_isa.specs.History.{Completed}
use Rattle.m88_isa.specs.declared.planned.Access.{Access}
use Rattle.m88_iunit.specs.Pointers.{Pointers}
use Rattle.m88_mem.specs.DataBus.{MemoryView, absent_of, bus_of}
use Rattle.m88_scoreboard.specs.Registers.{Registers}
use Rattle.m88_board.specs.declared.book.Book.{Book}

-- its parts, the book of the program that it runs, and whether it began from parts and not before a program's first
-- instruction. The book has the most instructions that the program may retire and the pages that were absent at first;
-- the counts of instructions retired, of transactions answered or finished, of events, and of transactions answered
-- with data; how the program ended, if it has; the output; and the records of the data faults.
pub record BoardView : Type 0 where
  pub slots : Pointers
  pub pending : List Access
  pub file : Registers
  pub memory : MemoryView
  pub control : ControlRegisters
  pub book : Book
  pub open book use {limit, absent as named, retired, done, events, answers, end as ended, out, records}
  pub begun : Bool

-- one event more is counted
abbrev pub event_counted : BoardView → BoardView
event_counted b = record b { book = record b.book { events = b.events + 1 } }

-- the registers and the words of a register file and a memory
abbrev pub cells_in : Registers → MemoryView → Cells
cells_in file memory = record { regs = file.numbers; bus = bus_of memory }

-- the address of the next instruction that isn't passed over
abbrev pub pc_of : Pointers → ℕ
pc_of slots = if slots.nip.v then slots.nip.addr else slots.fip.addr

-- the address of the instruction that follows it
abbrev pub next_of : Pointers → ℕ
next_of slots = if slots.nip.v then slots.fip.addr else after_bytes slots.fip.addr 4

-- the state once the pending transactions are done
unfoldable pub completed_of : BoardView → Completed
completed_of b = record {
  regs = (after_accesses b.pending (cells_in b.file b.memory)).regs;
  carry = carry_of b.control;
  mxm = mxm_of b.control;
  pc = pc_of b.slots;
  next = next_of b.slots;
  bus = (after_accesses b.pending (cells_in b.file b.memory)).bus;
  out = b.out;
}

-- what it looks like from outside
unfoldable pub local_of : BoardView → Local
local_of b = record {
  completed = completed_of b;
  bus = bus_of b.memory;
  pending = b.pending;
  xip = b.slots.xip;
  bubble = not b.slots.nip.v;
  ended = b.ended;
  absent = absent_of b.memory;
  retired = b.retired;
  done = b.done;
  events = b.events;
  answers = b.answers;
  records = b.records;
}

-- no more may be issued
abbrev pub is_idle_board : BoardView → Bool
is_idle_board b = is_some b.ended || b.retired == b.limit
