-- The judge: the first thing by which what a handler left differs from what the monitor's own service would have left;
-- and how an entry went.
use Rattle.std.specs.Prelude.{ℕ, Bool, not, List, Option, Some, None, ◌≡◌, ◌↔◌, ◌<◌, ◌≤◌, ◌+◌, ◌*◌, ◌^◌, ◌==◌, option_map, slice_index, if◌then◌else◌}
use Rattle.std.specs.Option.{option_or}
use Rattle.m88_base.specs.Pages.{page_bytes, page_count}
use Rattle.m88_base.specs.Slot.{slot_of}
use Rattle.m88_isa.specs.Address.{word_address}
use Rattle.m88_isa.specs.Held.{first_from}
use Rattle.m88_isa.specs.Machine.{Program}
use Rattle.m88_ctrl.specs.ControlRegisters.{ControlRegisters}
use Rattle.m88_monitor.specs.Serving.{Serving, after_service}
use Rattle.m88_handler.specs.Entering.{Faulted, entering, return_fault, serving_of_fault}
use Rattle.m88_handler.specs.Handled.{handling_of}
use Rattle.m88_handler.specs.Machine.{Handling, handled_by, presence}
use Rattle.m88_handler.specs.declared.cause.Cause.{Cause}
use Rattle.m88_handler.specs.declared.cause.Cause.TheVariants.{Steps}
use Rattle.m88_handler.specs.declared.cause.Course.{Course}
use Rattle.m88_handler.specs.declared.cause.Course.TheVariants as course
use Rattle.m88_handler.specs.declared.entering.Entry.{Entry}
use Rattle.m88_handler.specs.declared.judging.Difference.{Difference}
use Rattle.m88_handler.specs.declared.judging.Place.{Place}
use Rattle.m88_handler.specs.declared.judging.Place.TheVariants.{Register, Word, Page, Status, Next, Following}
use Rattle.m88_handler.specs.declared.remark.Remark.{Remark}
use Rattle.m88_handler.specs.declared.remark.Remark.TheVariants as remark

-- a difference at a place, with what is there and what was wanted
abbrev pub differs_at : Place → ℕ → ℕ → Difference
differs_at place left wanted = record { place = place; left = left; wanted = wanted }

-- the same of two numbers, where they differ
abbrev pub difference_at : Place → ℕ → ℕ → Option Difference
difference_at place left wanted = if left == wanted then None else Some (differs_at place left wanted)

-- a register of two lists differs
abbrev pub register_differs : List ℕ → List ℕ → ℕ → Bool
register_differs left wanted r = not (slice_index left r == slice_index wanted r)

-- the first register that differs, r1 to r31
abbrev pub register_difference : List ℕ → List ℕ → Option Difference
register_difference left wanted =
    option_map (λ r. differs_at (Register r) (slice_index left r) (slice_index wanted r))
    (first_from 1 31 (register_differs left wanted))

-- a word of two memories differs, by its place among all words
abbrev pub word_differs : (ℕ → ℕ) → (ℕ → ℕ) → ℕ → Bool
word_differs left wanted place = not (left (4 * place) == wanted (4 * place))

-- the first word that differs
abbrev pub word_difference : (ℕ → ℕ) → (ℕ → ℕ) → Option Difference
word_difference left wanted =
    option_map (λ place. differs_at (Word (4 * place)) (left (4 * place)) (wanted (4 * place)))
    (first_from 0 (2 ^ 30) (word_differs left wanted))

-- the presence of a page differs
abbrev pub page_differs : (ℕ → Bool) → (ℕ → Bool) → ℕ → Bool
page_differs left wanted page = not (presence (left page) == presence (wanted page))

-- the first page whose presence differs
abbrev pub page_difference : (ℕ → Bool) → (ℕ → Bool) → Option Difference
page_difference left wanted =
    option_map (λ page. differs_at (Page (page * page_bytes)) (presence (left page)) (presence (wanted page)))
    (first_from 0 page_count (page_differs left wanted))

-- the next instruction behind a return, as a word without E: 0 where it is passed over, and then its address counts for
-- nothing
abbrev pub next_seen : ControlRegisters → ℕ
next_seen c = if (slot_of c.snip).v then word_address c.snip + 2 else 0

-- the one that follows it, as a word without E
abbrev pub following_seen : ControlRegisters → ℕ
following_seen c = word_address c.sfip + 2

-- the first difference of what a handler left from what was wanted, if there is one: registers, words, pages, the carry
-- and MXM by EPSR, the next instruction and the one that follows. The words of the transactions, SXIP, SR0 to SR3, VBR
-- and the handler's own memory aren't compared: no program depends on them.
unfoldable pub difference : Serving → Serving → Option Difference
difference left wanted =
    option_or (register_difference left.numbers wanted.numbers)
    (option_or (word_difference left.bus wanted.bus)
    (option_or (page_difference left.absent wanted.absent)
    (option_or (difference_at Status left.control.epsr wanted.control.epsr)
    (option_or (difference_at Next (next_seen left.control) (next_seen wanted.control))
    (difference_at Following (following_seen left.control) (following_seen wanted.control))))))

-- what a handler left, as it is compared
abbrev pub left_by : Handling → Serving
left_by h = record { control = h.control; numbers = h.regs; bus = h.user; absent = h.absent }

-- what the judge says of a difference, or of none
abbrev pub remark_of : Option Difference → Remark
remark_of None = remark.Kept
remark_of (Some difference) = remark.Differs difference

-- how a return went: it couldn't be made, or what was left is compared
abbrev pub return_remark : Option Cause → Handling → Serving → Remark
return_remark (Some cause) h wanted = remark.Fails cause h.pc
return_remark None h wanted = remark_of (difference (left_by h) wanted)

-- how an entry went, by what came of the handler
abbrev pub remark_with : Course → Handling → Serving → Remark
remark_with course.Returns h wanted = return_remark (return_fault h.control) h wanted
remark_with course.Stops h wanted = remark.Stops
remark_with (course.Fails cause) h wanted = remark.Fails cause h.pc
remark_with course.GoesOn h wanted = remark.Fails Steps h.pc

-- the same: what is wanted is what the monitor's service leaves of the fault
abbrev pub judged : Course × Handling → Faulted → Remark
judged came f = remark_with came.0 came.1 (after_service (serving_of_fault f))

-- what comes of up to so many instructions of a handler that is entered by a data fault
unfoldable pub came_of : Program → ℕ → Faulted → Course × Handling
came_of p most f = handled_by p most (entering p f)

-- what is compared is the same
pub record AreAlike (left wanted : Serving) : Type 0 where
  pub registers : (r : ℕ) → 1 ≤ r → r < 32 → slice_index left.numbers r ≡ slice_index wanted.numbers r
  pub words : (place : ℕ) → place < 2 ^ 30 → left.bus (4 * place) ≡ wanted.bus (4 * place)
  pub pages : (page : ℕ) → page < page_count → left.absent page ≡ wanted.absent page
  pub status : left.control.epsr ≡ wanted.control.epsr
  pub next : next_seen left.control ≡ next_seen wanted.control
  pub following : following_seen left.control ≡ following_seen wanted.control

-- a handler returned, could return, and left what the monitor's own service leaves of the fault
pub record LeavesAlike (came : Course × Handling) (f : Faulted) : Type 0 where
  pub returns : came.0 ≡ course.Returns
  pub sound : return_fault came.1.control ≡ None
  pub alike : AreAlike (left_by came.1) (after_service (serving_of_fault f))

-- an entry of a handler: the registers as it found them, what it left, and how the entry went, which is kept exactly
-- where what it left is what the service leaves
pub record IsEntry (p : Program) (most : ℕ) (f : Faulted) (entry : Entry) : Type 0 where
  pub found : entry.found ≡ (entering p f).regs
  pub left : handling_of entry.left ≡ (came_of p most f).1
  pub went : entry.remark ≡ judged (came_of p most f) f
  pub kept : (entry.remark ≡ remark.Kept) ↔ LeavesAlike (came_of p most f) f
