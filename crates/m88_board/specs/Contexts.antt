-- Programs that aren't running: what a context keeps of one, the moments for which it stands, and how a program that
-- runs and one that doesn't change places by an interrupt ("Exception Processing": interrupt, return from exception).
use Rattle.std.specs.Prelude.{ℕ, Bool, ◌≡◌, ◌≤◌, ◌==◌, is_some, if◌then◌else◌}
use Rattle.std.specs.Int.{bit_at}
use Rattle.m88_base.specs.Image.{IsImage}
use Rattle.m88_base.specs.Slot.{slot_word}
use Rattle.m88_ctrl.specs.ControlRegisters.{ControlRegisters, entered, mxm_of, mxm_place, returned}
use Rattle.m88_event.specs.Past.{HasPast}
use Rattle.m88_event.specs.Shadow.{fip_of, status_of}
use Rattle.m88_event.specs.Timeline.{Moment, Run, absent_at, end_at, nip_at, xip_at}
use Rattle.m88_isa.specs.History.{bus_at, transaction_count}
use Rattle.m88_isa.specs.ImageProgram.{IsProgramOf}
use Rattle.m88_isa.specs.Machine.{Program, state}
use Rattle.m88_mem.specs.DataBus.{absent_of, bus_of}
use Rattle.m88_mem.specs.Marks.{absent_in}
use Rattle.m88_board.specs.Board.{BoardView}
use Rattle.m88_board.specs.Kept.{epsr_of, most_events, most_retired}
use Rattle.m88_board.specs.Shown.{pointer_frame}
use Rattle.m88_board.specs.declared.book.Book.{Book}
use Rattle.m88_board.specs.declared.context.Context.{Context}
use Rattle.m88_board.specs.declared.context.Saved.{Saved}

-- MXM of a status word
abbrev pub mxm_in : ℕ → Bool
mxm_in status = bit_at status mxm_place == 1

-- the words that are saved at a moment: the registers of the history, its status in EPSR, and XIP, NIP and FIP in
-- SXIP, SNIP and SFIP
pub record SavesAt (p : Program) (m : Moment) (s : Saved) : Type 0 where
  pub regs : s.regs ≡ (state p m.retired).regs
  pub epsr : s.epsr ≡ status_of (state p m.retired).carry (state p m.retired).mxm
  pub sxip : s.sxip ≡ slot_word (xip_at p m.retired)
  pub snip : s.snip ≡ slot_word (nip_at p m)
  pub sfip : s.sfip ≡ slot_word (fip_of p m.bubble (state p m.retired).pc (state p m.retired).next)

-- the book of a moment: its counts, how the program has ended, if it has, the output of the history, and the records
pub record BooksAt (p : Program) (m : Moment) (b : Book) : Type 0 where
  pub retired : b.retired ≡ m.retired
  pub done : b.done ≡ m.done
  pub events : b.events ≡ m.events
  pub answers : b.answers ≡ m.answers
  pub ended : b.end ≡ end_at p m
  pub out : b.out ≡ (state p m.retired).out
  pub records : b.records ≡ m.records

-- a context stands for a moment of a run: of a program that the image in its memory holds, in the mode of its status,
-- with the pages that its book names and the book's limit, and with what lies behind each moment of a run. Each
-- transaction of the instructions retired is done; the words that are saved and the book are those of the moment; its
-- memory has the words after these transactions, and the pages are absent that are so then, however they came to be;
-- and it is within the bounds of every board. Two moments with the same absent pages and all else the same are one to
-- it.
pub record StandsFor (r : Run) (m : Moment) (c : Context) : Type 0 where
  pub is_image : IsImage c.memory.image
  pub image : IsProgramOf c.memory.image r.program
  pub mode : r.program.mxm ≡ mxm_in c.saved.epsr
  pub names : r.absent ≡ absent_in c.book.absent
  pub limit : c.book.limit ≡ r.limit
  pub past : HasPast r m
  pub drained : m.done ≡ transaction_count r.program m.retired
  pub saved : SavesAt r.program m c.saved
  pub words : bus_of c.memory ≡ bus_at r.program m.retired m.done
  pub absent : absent_of c.memory ≡ absent_at r m
  pub book : BooksAt r.program m c.book
  pub small : c.book.limit ≤ most_retired
  pub counted : c.book.events ≤ most_events

-- a context stands for a moment of some run
abbrev pub StandsForSome : Context → Type 0
StandsForSome c = (r : Run) × (m : Moment) × StandsFor r m c

-- the words of the program that a board runs, where nothing is pending: its registers, its own status, and the words of
-- the instruction pointers
abbrev pub saved_of : BoardView → Saved
saved_of b = record {
  regs = b.file.numbers;
  epsr = epsr_of b;
  sxip = slot_word b.slots.xip;
  snip = slot_word b.slots.nip;
  sfip = slot_word b.slots.fip;
}

-- the context of that program
abbrev pub context_of : BoardView → Context
context_of b = record { saved = saved_of b; memory = b.memory; book = b.book }

-- a board goes on with the run that a context keeps: limit, choice of absent pages, image, MXM and the count of events
-- are the same
pub record IsRunOf (c : Context) (b : BoardView) : Type 0 where
  pub limit : b.limit ≡ c.book.limit
  pub named : b.named ≡ c.book.absent
  pub image : b.memory.image ≡ c.memory.image
  pub mxm : mxm_of b.control ≡ mxm_in c.saved.epsr
  pub events : b.events ≡ c.book.events

-- the control registers with the program's own status in PSR: where it has ended, a return from the exception that
-- ended it puts it back
abbrev pub own_control : BoardView → ControlRegisters
own_control b = if is_some b.ended then returned b.control else b.control

-- the control registers with the words of a program in EPSR, SXIP, SNIP and SFIP
abbrev pub with_saved : Saved → ControlRegisters → ControlRegisters
with_saved s c = record c { epsr = s.epsr; sxip = s.sxip; snip = s.snip; sfip = s.sfip }

-- the control registers after an interrupt by which the program of some words goes on: its exception was entered with
-- nothing pending, the other's words took the place of those that it had saved, and the monitor returned by them
abbrev pub switched : Saved → BoardView → ControlRegisters
switched s b = returned (with_saved s (entered (pointer_frame b.slots) (own_control b)))
