-- A board that goes on from parts.
use Rattle.std.specs.Prelude.{ℕ, Bool, Option, if◌then◌else◌}
use Rattle.m88_base.specs.Slot.{squashed_slot, valid_slot}
use Rattle.m88_base.specs.declared.absent.Absent.TheVariants as absent
use Rattle.m88_event.specs.declared.happened.End.{End}
use Rattle.m88_iunit.specs.Pointers.{Pointers, word_behind}
use Rattle.m88_board.specs.Kept.{lacks_word}
use Rattle.m88_board.specs.Parts.{xip_of}
use Rattle.m88_board.specs.declared.book.Book.{Book}
use Rattle.m88_board.specs.declared.parts.Parts.{Parts}

-- its slots: the instruction that was retired last, the next one and the one that follows it, or a bubble and the next
abbrev pub slots_from : Parts → Bool → Pointers
slots_from parts bubble = record {
  xip = xip_of parts.last;
  nip = if bubble then squashed_slot (word_behind (xip_of parts.last).addr)
      else valid_slot parts.pc (lacks_word parts.memory.image parts.pc);
  fip = if bubble then valid_slot parts.pc (lacks_word parts.memory.image parts.pc)
      else valid_slot parts.next (lacks_word parts.memory.image parts.next);
}

-- its book, with a limit and how the program ended, if it has; it makes no choice of absent pages of its own
abbrev pub book_from : Parts → ℕ → Option End → Book
book_from parts limit end = record {
  absent = absent.None;
  limit = limit;
  retired = parts.retired;
  done = parts.done;
  events = parts.events;
  answers = parts.answers;
  end = end;
  out = parts.out;
  records = parts.records;
}
