-- A board before its first event: what always holds of it, and that it stands at the first moment.
use Rattle.std.specs.Prelude.{ℕ, Bool, true, false, not, List, [], None, ◌≡◌, ◌≤◌, ◌&&◌, Option, replicate, unwrap_or}
use Rattle.std.proofs.Common.{arith, refl, sym, ap, ◌∙◌}
use Rattle.std.proofs.Math.Path.{fun_ext}
use Rattle.std.proofs.lemmas.List.Elements.{All-nil}
use Rattle.m88_base.specs.Image.{IsImage, ProgramImage}
use Rattle.m88_base.specs.Slot.{no_slot}
use Rattle.m88_base.specs.declared.absent.Absent.{Absent}
use Rattle.m88_ctrl.specs.ControlRegisters.{ControlRegisters, at_start, carry_of, mxm_of}
use Rattle.m88_event.proofs.Laws.{opens_with}
use Rattle.m88_event.specs.Local.{Local, local_at}
use Rattle.m88_isa.specs.declared.planned.Access.{Access}
use Rattle.m88_event.specs.Shadow.{status_of}
use Rattle.m88_event.specs.Timeline.{Run, opening_moment, xip_along}
use Rattle.m88_isa.specs.Address.{after_bytes, word_address}
use Rattle.m88_isa.specs.Bus.{after_accesses, bus_after_all, in_words}
use Rattle.m88_isa.specs.History.{completed_state, transactions}
use Rattle.m88_isa.specs.Machine.{Program, opening, state}
use Rattle.m88_isa.specs.Memory.{IsWordAccess}
use Rattle.m88_iunit.specs.Pointers.{Pointers, at_entry, word_behind}
use Rattle.m88_mem.specs.DataBus.{MemoryView, absent_of, bus_of, image_bus, image_bytes, ready_of}
use Rattle.m88_scoreboard.specs.Registers.{Registers, none_waits, waiting_of}
use Rattle.m88_board.proofs.Waiting.{none_wait_for_none}
use Rattle.m88_board.specs.Board.{BoardView, completed_of, local_of}
use Rattle.m88_board.specs.Inside.Books.{new_book}
use Rattle.m88_board.specs.declared.book.Book.{Book}
use Rattle.m88_isa.specs.ImageProgram.{IsProgramOf}
use Rattle.m88_board.specs.Kept.{HasReadyPage, IsKept, lacks_word, most_retired}
use Rattle.m88_board.specs.Moves.{IsAt}

-- such a board by its parts
abbrev pub starting : Bool → ℕ → Absent → Pointers → Registers → MemoryView → BoardView
starting mxm limit named slots file memory = record {
  slots = slots;
  pending = [];
  file = file;
  memory = memory;
  control = at_start mxm;
  book = new_book named limit;
  begun = false;
}

-- what holds of it holds of any board whose parts are these
pub made : (P : BoardView → Type 0) (mxm : Bool) (limit : ℕ) (chosen named : Absent) (slots seen : Pointers) (pending : List Access) (file : Registers)
    (memory : MemoryView) (control : ControlRegisters) (book : Book) →
    chosen ≡ named →
    slots ≡ seen →
    pending ≡ [] →
    control ≡ at_start mxm →
    book ≡ new_book chosen limit →
    P (starting mxm limit named seen file memory) →
    P (record {
      slots = slots;
      pending = pending;
      file = file;
      memory = memory;
      control = control;
      book = book;
      begun = false;
    })
made P mxm limit chosen named slots seen pending file memory control book n s p c b known = rw (b, n, s, p, c) known

-- the status at first
status_at : (mxm : Bool) → (at_start mxm).psr ≡ status_of (carry_of (at_start mxm)) (mxm_of (at_start mxm))
status_at true = refl
status_at false = refl

-- what always holds
pub kept : (mxm : Bool) (limit : ℕ) (named : Absent) (entry : ℕ) (e0 e1 : Bool) (file : Registers) (memory : MemoryView) → limit ≤ most_retired →
    IsImage memory.image →
    waiting_of file ≡ none_waits →
    e0 ≡ lacks_word memory.image entry →
    e1 ≡ lacks_word memory.image (word_behind entry) →
    IsKept (starting mxm limit named (at_entry entry e0 e1) file memory)
kept mxm limit named entry e0 e1 file memory small image none first second = record {
  parts = record {
    few = omega arith;
    made = All-nil IsWordAccess;
    apart = tt;
    waiting = none ∙ none_wait_for_none;
    ready = All-nil (HasReadyPage (ready_of memory));
  };
  image = image;
  slots = record { nip = rw first refl; fip = rw second refl; xip = refl };
  bubbled = λ h. absurd cc;
  unbubbled = λ h. refl;
  status = status_at mxm;
  drained = λ h. refl;
  made = omega arith;
  told = omega arith;
  put_out = omega arith;
  within = omega arith;
  early = λ h. absurd cc;
  ends = tt;
  ends_so = tt;
  small = small;
  counted = omega arith;
}

-- what is seen of it by its registers, words, absent pages and start
abbrev seen_at : Bool → List ℕ → (ℕ → ℕ) → (ℕ → Bool) → ℕ → Local
seen_at mxm numbers bus absent entry = record {
  completed = record { regs = numbers; carry = false; mxm = mxm; pc = entry; next = after_bytes entry 4; bus = bus; out = [] };
  bus = bus;
  pending = [];
  xip = no_slot;
  bubble = false;
  ended = None;
  absent = absent;
  retired = 0;
  done = 0;
  events = 0;
  answers = 0;
  records = [];
}

-- a page that is absent
still_absent : (t : Bool) → t ≡ (t && not false)
still_absent true = refl
still_absent false = refl

-- the bytes of the program are those of the image
pub same_bytes : (p : Program) (image : ProgramImage) → IsProgramOf image p →
    image_bus image ≡ in_words (λ a. unwrap_or (p.byte a) 0)
unfolding image_bytes
same_bytes p image of = ap in_words (fun_ext (λ a. ap (λ (byte : ℕ → Option ℕ). unwrap_or (byte a) 0) (sym of.bytes)))

board_seen : (mxm : Bool) (limit : ℕ) (chosen : Absent) (entry : ℕ) (e0 e1 : Bool) (file : Registers) (memory : MemoryView) →
    local_of (starting mxm limit chosen (at_entry entry e0 e1) file memory)
    ≡ seen_at mxm file.numbers (bus_of memory) (absent_of memory) entry
unfolding local_of completed_of after_accesses bus_of
board_seen true limit chosen entry e0 e1 file memory = refl
board_seen false limit chosen entry e0 e1 file memory = refl

moment_seen : (r : Run) →
    local_at r opening_moment
    ≡ seen_at r.program.mxm (replicate 32 0) (in_words (λ a. unwrap_or (r.program.byte a) 0))
    (λ page. r.absent page && not false) (word_address r.program.start)
unfolding local_at completed_state state opening transactions xip_along bus_after_all
moment_seen r = refl

-- it stands at the first moment
pub opens : (r : Run) (mxm : Bool) (chosen : Absent) (entry : ℕ) (e0 e1 : Bool) (file : Registers) (memory : MemoryView) →
    file.numbers ≡ replicate 32 0 →
    bus_of memory ≡ image_bus memory.image →
    absent_of memory ≡ r.absent →
    entry ≡ word_address memory.image.start →
    IsProgramOf memory.image r.program →
    r.program.mxm ≡ mxm →
    IsAt r opening_moment (starting mxm r.limit chosen (at_entry entry e0 e1) file memory)
unfolding transactions
opens r mxm chosen entry e0 e1 file memory numbers bus absent start of mode = record {
  image = of;
  limit = refl;
  within = omega arith;
  past = opens_with r;
  seen = board_seen mxm r.limit chosen entry e0 e1 file memory
      ∙ (let words = bus ∙ same_bytes r.program memory.image of in
      let pages = absent ∙ fun_ext (λ page. still_absent (r.absent page)) in
      let place = start ∙ ap word_address (sym of.start) in
      λ i. seen_at (sym mode i) (numbers i) (words i) (pages i) (place i))
      ∙ sym (moment_seen r);
}
