-- What always holds of a board.
use Rattle.std.specs.Prelude.{ℕ, Bool, true, false, List, [], All, IfSome, ◌≡◌, ◌<◌, ◌≤◌, ◌+◌, ◌*◌, ◌^◌, is_none, is_some, length, if◌then◌else◌}
use Rattle.m88_base.specs.Image.{IsImage, ProgramImage, byte_at}
use Rattle.m88_base.specs.Pages.{page_number}
use Rattle.m88_base.specs.Slot.{no_slot, squashed_slot, valid_slot}
use Rattle.m88_ctrl.specs.ControlRegisters.{carry_of, mxm_of}
use Rattle.m88_event.specs.Shadow.{retired_pointer, status_of}
use Rattle.m88_event.specs.Timeline.{end_of_turn}
use Rattle.m88_event.specs.declared.happened.End.{End}
use Rattle.m88_event.specs.declared.happened.End.TheVariants.{Limit}
use Rattle.m88_isa.specs.Bus.{LoadApart, waits_for}
use Rattle.m88_isa.specs.Held.{most_pending}
use Rattle.m88_isa.specs.ImageProgram.{IsProgramOf}
use Rattle.m88_isa.specs.History.{Completed}
use Rattle.m88_isa.specs.Machine.{Program, Turn, four_bytes, turn}
use Rattle.m88_isa.specs.Memory.{IsWordAccess}
use Rattle.m88_isa.specs.declared.planned.Access.{Access}
use Rattle.m88_iunit.specs.Pointers.{Pointers, word_behind}
use Rattle.m88_mem.specs.DataBus.{MemoryView, ready_of}
use Rattle.m88_scoreboard.specs.Registers.{Registers, waiting_of}
use Rattle.m88_board.specs.Board.{BoardView, completed_of}

-- the turn of the next instruction of a program
abbrev pub turn_by : Program → Completed → Turn
turn_by p c = turn p c.regs c.carry c.mxm c.pc c.next

-- the most instructions that a run may retire
abbrev pub most_retired : ℕ
most_retired = 1000000

-- the most events that are counted
abbrev pub most_events : ℕ
most_events = 2 ^ 63

-- a store has its page ready
abbrev pub HasReadyPage : (ℕ → Bool) → Access → Type 0
HasReadyPage ready a = a.write ≡ true → ready (page_number a.addr) ≡ true

-- each store among some accesses has
abbrev pub AreReady : (ℕ → Bool) → List Access → Type 0
AreReady ready = All (HasReadyPage ready)

-- the parts agree on the pending transactions: there are at most three, each one that the data unit can make, of which
-- no two load one register; the registers that they load wait, and no others; and each store has its page ready
pub record PartsAgree (pending : List Access) (file : Registers) (memory : MemoryView) : Type 0 where
  pub few : length pending ≤ most_pending
  pub made : All IsWordAccess pending
  pub apart : LoadApart pending
  pub waiting : waiting_of file ≡ waits_for pending
  pub ready : AreReady (ready_of memory) pending

-- one of the four bytes at an address isn't there
abbrev pub lacks_word : ProgramImage → ℕ → Bool
lacks_word image a = is_none (four_bytes (byte_at image) a)

-- the slots are those of a program over an image: FIP can be issued; NIP too, or it is the instruction behind XIP and
-- passed over; E where the image lacks a byte; XIP is an instruction that was retired, or nothing
pub record SlotsAgree (image : ProgramImage) (slots : Pointers) : Type 0 where
  pub nip : slots.nip
      ≡ (if slots.nip.v then valid_slot slots.nip.addr (lacks_word image slots.nip.addr)
      else squashed_slot (word_behind slots.xip.addr))
  pub fip : slots.fip ≡ valid_slot slots.fip.addr (lacks_word image slots.fip.addr)
  pub xip : slots.xip ≡ (if slots.xip.v then retired_pointer slots.xip.addr else no_slot)

-- an instruction was retired, and it is XIP: a bubble is there only behind one
pub record IsBehind (retired : ℕ) (slots : Pointers) : Type 0 where
  pub some : 1 ≤ retired
  pub xip : slots.xip.v ≡ true

-- the status: until the program has ended PSR is a user's with the carry and MXM, afterwards EPSR has that
abbrev pub epsr_of : BoardView → ℕ
epsr_of b = if is_some b.ended then b.control.epsr else b.control.psr

-- an end that a program comes to by itself
abbrev pub IsProgramEnd : End → Type 0
IsProgramEnd Limit = ⊥
IsProgramEnd _ = Unit {0}

-- it ended as each program of its image does at the state reached
abbrev pub EndsSo : BoardView → End → Type 0
EndsSo b end = (p : Program) → IsProgramOf b.memory.image p → end_of_turn (turn_by p (completed_of b)) ≡ end

-- what always holds of a board
pub record IsKept (b : BoardView) : Type 0 where
  pub parts : PartsAgree b.pending b.file b.memory
  pub image : IsImage b.memory.image
  pub slots : SlotsAgree b.memory.image b.slots
  pub bubbled : b.slots.nip.v ≡ false → IsBehind b.retired b.slots
  pub unbubbled : is_some b.ended ≡ true → b.slots.nip.v ≡ true
  pub status : epsr_of b ≡ status_of (carry_of b.control) (mxm_of b.control)
  pub drained : is_some b.ended ≡ true → b.pending ≡ []
  pub made : b.done + length b.pending ≤ 2 * b.retired
  pub told : b.answers + length b.records ≤ b.done
  pub put_out : length b.out ≤ b.retired
  pub within : b.retired ≤ b.limit
  pub early : is_some b.ended ≡ true → b.retired < b.limit
  pub ends : IfSome b.ended IsProgramEnd
  pub ends_so : IfSome b.ended (EndsSo b)
  pub small : b.limit ≤ most_retired
  pub counted : b.events ≤ most_events
