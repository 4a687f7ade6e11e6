-- The parts of a board, and the board that goes on from parts.
use Rattle.std.specs.Prelude.{ℕ, Bool, true, false, not, List, [], Option, Some, None, IfSome, ◌≡◌, ◌<◌, ◌==◌, is_some, slice_index, if◌then◌else◌}
use Rattle.std.proofs.Common.{arith, refl, sym, ap, ◌∙◌, subst}
use Rattle.std.proofs.lemmas.Bool.Decides.{nat_tests}
use Rattle.std.proofs.lemmas.List.Elements.{All-nil}
use Rattle.m88_base.specs.Image.{IsImage}
use Rattle.m88_base.specs.Slot.{no_slot, slot_word}
use Rattle.m88_base.specs.declared.slot.Slot.{Slot}
use Rattle.m88_ctrl.specs.ControlRegisters.{ControlRegisters, at_start, carry_of, mxm_of, with_carry}
use Rattle.m88_event.specs.Run.{outcome_by}
use Rattle.m88_event.specs.Shadow.{retired_pointer, status_of}
use Rattle.m88_event.specs.declared.happened.End.{End}
use Rattle.m88_event.specs.declared.outcome.Outcome.{Outcome}
use Rattle.m88_isa.specs.Bus.{after_accesses}
use Rattle.m88_isa.specs.Memory.{IsWordAccess}
use Rattle.m88_isa.specs.declared.planned.Access.{Access}
use Rattle.m88_iunit.specs.Pointers.{Pointers}
use Rattle.m88_mem.specs.DataBus.{MemoryView, bus_of, image_bus, ready_of}
use Rattle.m88_scoreboard.specs.Registers.{Registers, none_waits, waiting_of}
use Rattle.m88_board.proofs.Ending.{none_wait, registers_seen, words_seen}
use Rattle.m88_board.proofs.Stopping.{no_end}
use Rattle.m88_board.proofs.Waiting.{none_wait_for_none}
use Rattle.m88_board.specs.Board.{BoardView, completed_of, local_of, next_of, pc_of}
use Rattle.m88_board.specs.Inside.Books.{outcome_in}
use Rattle.m88_board.specs.Inside.Going.{book_from, slots_from}
use Rattle.m88_board.specs.Kept.{HasReadyPage, IsBehind, IsKept, SlotsAgree}
use Rattle.m88_board.specs.Parts.{IsAtWord, MayBegin, MayPass, control_at, last_of, parts_of, parts_with, seen_at, seen_of_parts, xip_of}
use Rattle.m88_board.specs.declared.book.Book.{Book}
use Rattle.m88_board.specs.declared.parts.Parts.{Parts}

-- XIP comes back from the address of the instruction that was retired last
some_word : (n : ℕ) → 0 < n → (n == 0) ≡ false
some_word n h = grind (arith, nat_tests)

from_address : (address : ℕ) (v e : Bool) →
    record { addr = address; v = v; e = e } ≡ (if v then retired_pointer address else no_slot) →
    xip_of (last_of (record { addr = address; v = v; e = e })) ≡ record { addr = address; v = v; e = e }
from_address address true e is =
    ap (λ (t : Bool). xip_of (if t then None else Some address))
    (some_word (slot_word (record { addr = address; v = true; e = e })) (omega arith))
    ∙ sym is
from_address address false e is = ap (λ (s : Slot). xip_of (last_of s)) is ∙ sym is

pub xip_back : (x : Slot) → x ≡ (if x.v then retired_pointer x.addr else no_slot) → xip_of (last_of x) ≡ x
xip_back x is = from_address x.addr x.v x.e is

-- the address is that of a word
word_or_none : (t : Bool) (address : ℕ) → IsAtWord address → IfSome (if t then None else Some address) IsAtWord
word_or_none true address word = tt
word_or_none false address word = word

-- an instruction that was retired has an address
some_or_none : (t : Bool) (address : ℕ) → t ≡ false → is_some (if t then None else Some address) ≡ true
some_or_none true address h = absurd cc
some_or_none false address h = refl

some_last : (address : ℕ) (v e : Bool) → v ≡ true → is_some (last_of (record { addr = address; v = v; e = e })) ≡ true
some_last address true e valid =
    some_or_none (slot_word (record { addr = address; v = true; e = e }) == 0) address
    (some_word (slot_word (record { addr = address; v = true; e = e })) (omega arith))
some_last address false e valid = absurd cc

-- the parts of a board by its values
pub parts_are : (b : BoardView) (regs : List ℕ) (carry : Bool) (two : ℕ × ℕ) (last : Option ℕ) →
    carry ≡ carry_of b.control →
    two ≡ (pc_of b.slots, next_of b.slots) →
    last ≡ last_of b.slots.xip →
    record {
      memory = b.memory;
      regs = regs;
      carry = carry;
      pc = two.0;
      next = two.1;
      last = last;
      retired = b.retired;
      done = b.done;
      events = b.events;
      answers = b.answers;
      out = b.out;
      records = b.records;
    } ≡ parts_with regs b
parts_are b regs carry two last carries addresses xip =
    λ i. record (parts_with regs b) { carry = carries i; pc = (addresses i).0; next = (addresses i).1; last = xip i }

-- and where nothing is pending
pub parts_whole : (b : BoardView) (parts : Parts) → IsKept b →
    parts ≡ parts_with parts.regs b →
    (waiting_of b.file ≡ none_waits → parts.regs ≡ b.file.numbers) →
    b.pending ≡ [] →
    parts ≡ parts_of b
parts_whole b parts kept are values none = are ∙ ap (λ (rs : List ℕ). parts_with rs b) (values (none_wait b kept none))

-- a board may begin from them
pub may_begin : (b : BoardView) (parts : Parts) →
    IsKept b →
    parts ≡ parts_with parts.regs b →
    slice_index parts.regs 0 ≡ 0 →
    IsAtWord b.slots.xip.addr →
    IsAtWord parts.pc →
    IsAtWord parts.next →
    MayBegin parts b.limit
may_begin b parts kept are zero xip pc next =
    let made = kept.made in
    subst (λ (x : Parts). MayBegin x b.limit) (sym are) (record {
      zero = zero;
      pc = subst (λ (x : Parts). IsAtWord x.pc) are pc;
      next = subst (λ (x : Parts). IsAtWord x.next) are next;
      last = word_or_none (slot_word b.slots.xip == 0) b.slots.xip.addr xip;
      within = kept.within;
      small = kept.small;
      counted = kept.counted;
      made = omega (arith, made);
      told = kept.told;
      put_out = kept.put_out;
    })

-- behind a bubble, where there is one
pub may_pass : (b : BoardView) (parts : Parts) → IsKept b → parts ≡ parts_with parts.regs b → b.slots.nip.v ≡ false →
    MayPass parts
may_pass b parts kept are bubble =
    let behind = kept.bubbled bubble in
    subst (λ (x : Parts). MayPass x) (sym are) (record {
      some = behind.some;
      last = some_last b.slots.xip.addr b.slots.xip.v b.slots.xip.e behind.xip;
      straight = rw bubble refl;
    })

-- what is seen of the board that would go on from them
pub seen_apart : (b : BoardView) (parts : Parts) →
    IsKept b →
    parts ≡ parts_with parts.regs b →
    seen_at (mxm_of b.control) (not b.slots.nip.v) parts
    ≡ record (local_of b) {
      completed = record (completed_of b) { regs = parts.regs; bus = bus_of b.memory };
      pending = [];
      ended = None;
    }
unfolding seen_of_parts local_of completed_of
seen_apart b parts kept are =
    ap (seen_at (mxm_of b.control) (not b.slots.nip.v)) are
    ∙ ap (λ (x : Slot). record (local_of b) {
      completed = record (completed_of b) { regs = parts.regs; bus = bus_of b.memory };
      pending = [];
      ended = None;
      xip = x;
    }) (xip_back b.slots.xip kept.slots.xip)

-- where nothing is pending and no bubble is next it is what was seen, but for the end
pub seen_drained : (b : BoardView) (parts : Parts) →
    IsKept b →
    parts ≡ parts_of b →
    b.pending ≡ [] →
    b.slots.nip.v ≡ true →
    seen_at (mxm_of b.control) false parts ≡ record (local_of b) { ended = None }
unfolding seen_of_parts local_of completed_of
seen_drained b parts kept are none valid =
    let regs = registers_seen b none in
    let words = words_seen b none in
    let empty = sym none in
    let bubble = ap not (sym valid) in
    let xip = xip_back b.slots.xip kept.slots.xip in
    ap (seen_at (mxm_of b.control) false) are
    ∙ (λ i. record (local_of b) {
      completed = record (completed_of b) { regs = regs i; bus = words i };
      pending = empty i;
      xip = xip i;
      bubble = bubble i;
      ended = None;
    })

-- in the mode where MXM is clear, behind no bubble
pub plainly_seen : (parts : Parts) → seen_at false false parts ≡ seen_of_parts parts
unfolding seen_of_parts
plainly_seen parts = refl

-- so it was with MXM clear
pub seen_back : (b : BoardView) (parts : Parts) →
    seen_at (mxm_of b.control) false parts ≡ record (local_of b) { ended = None } →
    mxm_of b.control ≡ false →
    seen_of_parts parts ≡ record (local_of b) { ended = None }
seen_back b parts seen clear =
    sym (plainly_seen parts) ∙ ap (λ (m : Bool). seen_at m false parts) (sym clear) ∙ seen

-- how it ended is nothing where it hasn't
pub unended : (b : BoardView) → is_some b.ended ≡ false → record (local_of b) { ended = None } ≡ local_of b
unfolding local_of
unended b going = ap (λ (e : Option End). record (local_of b) { ended = e }) (sym (no_end b.ended going))

-- the status of a board that goes on
status_right : (mxm carry : Bool) →
    (control_at mxm carry).psr ≡ status_of (carry_of (control_at mxm carry)) (mxm_of (control_at mxm carry))
status_right true true = refl
status_right true false = refl
status_right false true = refl
status_right false false = refl

carry_right : (mxm carry : Bool) → carry_of (control_at mxm carry) ≡ carry
carry_right true true = refl
carry_right true false = refl
carry_right false true = refl
carry_right false false = refl

mxm_right : (mxm carry : Bool) → mxm_of (control_at mxm carry) ≡ mxm
mxm_right true true = refl
mxm_right true false = refl
mxm_right false true = refl
mxm_right false false = refl

-- the board that goes on from parts, with these registers
abbrev pub begun_from : Parts → ℕ → Bool → Bool → Registers → BoardView
begun_from parts limit mxm bubble file = record {
  slots = slots_from parts bubble;
  pending = [];
  file = file;
  memory = parts.memory;
  control = control_at mxm parts.carry;
  book = book_from parts limit None;
  begun = true;
}

-- what holds of it holds of any board whose parts are these
pub begins : (P : BoardView → Type 0) (parts : Parts) (limit : ℕ) (mxm bubble : Bool) (file : Registers) (slots : Pointers)
    (pending : List Access) (control started : ControlRegisters) (kept : MemoryView × Book) →
    slots ≡ slots_from parts bubble →
    pending ≡ [] →
    control ≡ record started { psr = with_carry parts.carry started.psr } →
    started ≡ at_start mxm →
    kept ≡ (parts.memory, book_from parts limit None) →
    P (begun_from parts limit mxm bubble file) →
    P (record {
      slots = slots;
      pending = pending;
      file = file;
      memory = kept.0;
      control = control;
      book = kept.1;
      begun = true;
    })
begins P parts limit mxm bubble file slots pending control started kept s p c a k known = rw (s, p, c, a, k) known

from_last : (last : Option ℕ) → xip_of last ≡ (if (xip_of last).v then retired_pointer (xip_of last).addr else no_slot)
from_last None = refl
from_last (Some address) = refl

-- its slots agree
slots_right : (parts : Parts) (bubble : Bool) → SlotsAgree parts.memory.image (slots_from parts bubble)
slots_right parts true = record { nip = refl; fip = refl; xip = from_last parts.last }
slots_right parts false = record { nip = refl; fip = refl; xip = from_last parts.last }

-- and a bubble is there only behind an instruction
last_valid : (last : Option ℕ) → is_some last ≡ true → (xip_of last).v ≡ true
last_valid None h = absurd cc
last_valid (Some address) h = refl

behind_one : (parts : Parts) (bubble : Bool) → (bubble ≡ true → MayPass parts) → (slots_from parts bubble).nip.v ≡ false →
    IsBehind parts.retired (slots_from parts bubble)
behind_one parts true passes h = record { some = (passes refl).some; xip = last_valid parts.last (passes refl).last }
behind_one parts false passes h = absurd cc

-- what always holds
pub kept_begun : (parts : Parts) (limit : ℕ) (mxm bubble : Bool) (file : Registers) →
    MayBegin parts limit →
    (bubble ≡ true → MayPass parts) →
    IsImage parts.memory.image →
    waiting_of file ≡ none_waits →
    IsKept (begun_from parts limit mxm bubble file)
kept_begun parts limit mxm bubble file may passes image none =
    let made = may.made in
    record {
      parts = record {
        few = omega arith;
        made = All-nil IsWordAccess;
        apart = tt;
        waiting = none ∙ none_wait_for_none;
        ready = All-nil (HasReadyPage (ready_of parts.memory));
      };
      image = image;
      slots = slots_right parts bubble;
      bubbled = behind_one parts bubble passes;
      unbubbled = λ h. absurd cc;
      status = status_right mxm parts.carry;
      drained = λ h. refl;
      made = omega (arith, made);
      told = may.told;
      put_out = may.put_out;
      within = may.within;
      early = λ h. absurd cc;
      ends = tt;
      ends_so = tt;
      small = may.small;
      counted = may.counted;
    }

-- what is seen of it
pub seen_begun : (parts : Parts) (limit : ℕ) (mxm bubble : Bool) (file : Registers) → (bubble ≡ true → MayPass parts) →
    file.numbers ≡ parts.regs →
    local_of (begun_from parts limit mxm bubble file) ≡ seen_at mxm bubble parts
unfolding local_of completed_of after_accesses seen_of_parts
seen_begun parts limit mxm true file passes numbers =
    let carry = carry_right mxm parts.carry in
    let mode = mxm_right mxm parts.carry in
    let next = sym (passes refl).straight in
    λ i. record (seen_at mxm true parts) {
      completed = record (seen_at mxm true parts).completed { regs = numbers i; carry = carry i; mxm = mode i; next = next i };
    }
seen_begun parts limit mxm false file passes numbers =
    let carry = carry_right mxm parts.carry in
    let mode = mxm_right mxm parts.carry in
    λ i. record (seen_at mxm false parts) {
      completed = record (seen_at mxm false parts).completed { regs = numbers i; carry = carry i; mxm = mode i };
    }

-- what a run came to that is stopped here
pub came_to_parts : (parts : Parts) (end : End) (kept : MemoryView × Book) (o : Outcome) →
    kept ≡ (parts.memory, book_from parts parts.retired (Some end)) →
    o ≡ outcome_in kept.1 parts.regs parts.carry kept.0 →
    o ≡ outcome_by (image_bus parts.memory.image) (record (seen_of_parts parts) { ended = Some end })
unfolding outcome_by seen_of_parts
came_to_parts parts end kept o is comes =
    comes ∙ ap (λ (k : MemoryView × Book). outcome_in k.1 parts.regs parts.carry k.0) is
