-- The book of a run at its start, and what the run came to by its book.
use Rattle.std.specs.Prelude.{ℕ, Bool, List, [], None, unwrap_or}
use Rattle.m88_base.specs.declared.absent.Absent.{Absent}
use Rattle.m88_event.specs.declared.happened.End.TheVariants.{Limit}
use Rattle.m88_event.specs.declared.outcome.Outcome.{Outcome}
use Rattle.m88_isa.specs.Bus.{changed_words}
use Rattle.m88_mem.specs.DataBus.{MemoryView, bus_of, image_bus}
use Rattle.m88_board.specs.declared.book.Book.{Book}

-- the book of a program before its first event
abbrev pub new_book : Absent → ℕ → Book
new_book named limit = record {
  absent = named;
  limit = limit;
  retired = 0;
  done = 0;
  events = 0;
  answers = 0;
  end = None;
  out = [];
  records = [];
}

-- what a run came to by its book, and by the registers, the carry and the memory that it has then
abbrev pub outcome_in : Book → List ℕ → Bool → MemoryView → Outcome
outcome_in book regs carry memory = record {
  end = unwrap_or book.end Limit;
  retired = book.retired;
  regs = regs;
  carry = carry;
  out = book.out;
  changed = changed_words (image_bus memory.image) (bus_of memory);
  events = book.events;
  answers = book.answers;
  records = book.records;
}
