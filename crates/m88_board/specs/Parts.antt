-- The parts of a board, and the board that goes on from parts.
use Rattle.std.specs.Prelude.{ℕ, Bool, true, false, List, [], Option, Some, None, IfSome, ◌≡◌, ◌≤◌, ◌+◌, ◌*◌, ◌%◌, ◌==◌, is_some, length, slice_index, if◌then◌else◌}
use Rattle.m88_base.specs.Slot.{no_slot, slot_word}
use Rattle.m88_base.specs.declared.slot.Slot.{Slot}
use Rattle.m88_ctrl.specs.ControlRegisters.{ControlRegisters, at_start, carry_of, with_carry}
use Rattle.m88_event.specs.Local.{Local}
use Rattle.m88_event.specs.Shadow.{retired_pointer}
use Rattle.m88_mem.specs.DataBus.{absent_of, bus_of}
use Rattle.m88_isa.specs.Address.{after_bytes}
use Rattle.m88_board.specs.Board.{BoardView, next_of, pc_of}
use Rattle.m88_board.specs.Kept.{most_events, most_retired}
use Rattle.m88_board.specs.declared.parts.Parts.{Parts}

-- the address of the instruction that was retired last: that of XIP, or none where the word of XIP is 0
abbrev pub last_of : Slot → Option ℕ
last_of xip = if slot_word xip == 0 then None else Some xip.addr

-- XIP of such an address
abbrev pub xip_of : Option ℕ → Slot
xip_of None = no_slot
xip_of (Some address) = retired_pointer address

-- the parts of a board
abbrev pub parts_of : BoardView → Parts
parts_of b = record {
  memory = b.memory;
  regs = b.file.numbers;
  carry = carry_of b.control;
  pc = pc_of b.slots;
  next = next_of b.slots;
  last = last_of b.slots.xip;
  retired = b.retired;
  done = b.done;
  events = b.events;
  answers = b.answers;
  out = b.out;
  records = b.records;
}

-- the same with these registers
abbrev pub parts_with : List ℕ → BoardView → Parts
parts_with regs b = record (parts_of b) { regs = regs }

-- a byte address is that of a word
abbrev pub IsAtWord : ℕ → Type 0
IsAtWord address = address % 4 ≡ 0

-- a board may begin from parts with this limit: r0 is 0; the addresses are those of words; no more instructions are
-- retired than the limit says, which is small; the events can be counted; each transaction that was answered or
-- finished was made by an instruction, each that was answered and each fault is among these; and each byte was put out
-- for an instruction
pub record MayBegin (parts : Parts) (limit : ℕ) : Type 0 where
  pub zero : slice_index parts.regs 0 ≡ 0
  pub pc : IsAtWord parts.pc
  pub next : IsAtWord parts.next
  pub last : IfSome parts.last IsAtWord
  pub within : parts.retired ≤ limit
  pub small : limit ≤ most_retired
  pub counted : parts.events ≤ most_events
  pub made : parts.done ≤ 2 * parts.retired
  pub told : parts.answers + length parts.records ≤ parts.done
  pub put_out : length parts.out ≤ parts.retired

-- a board may go on from parts behind a bubble: an instruction was retired, which is XIP, and the next two follow one
-- another
pub record MayPass (parts : Parts) : Type 0 where
  pub some : 1 ≤ parts.retired
  pub last : is_some parts.last ≡ true
  pub straight : parts.next ≡ after_bytes parts.pc 4

-- the control registers of the board that goes on from parts with this MXM and this carry: else those at the start
abbrev pub control_at : Bool → Bool → ControlRegisters
control_at mxm carry = record (at_start mxm) { psr = with_carry carry (at_start mxm).psr }

-- the same of the board that begins from parts: MXM is clear
abbrev pub begun_control : Bool → ControlRegisters
begun_control carry = control_at false carry

-- what is seen of the board that begins from parts: nothing is pending, no mark is set, and MXM is clear
unfoldable pub seen_of_parts : Parts → Local
seen_of_parts parts = record {
  completed = record {
    regs = parts.regs;
    carry = parts.carry;
    mxm = false;
    pc = parts.pc;
    next = parts.next;
    bus = bus_of parts.memory;
    out = parts.out;
  };
  bus = bus_of parts.memory;
  pending = [];
  xip = xip_of parts.last;
  bubble = false;
  ended = None;
  absent = absent_of parts.memory;
  retired = parts.retired;
  done = parts.done;
  events = parts.events;
  answers = parts.answers;
  records = parts.records;
}

-- the same of the board that goes on from parts with this MXM, behind a bubble or not
abbrev pub seen_at : Bool → Bool → Parts → Local
seen_at mxm bubble parts = record (seen_of_parts parts) {
  completed = record (seen_of_parts parts).completed { mxm = mxm };
  bubble = bubble;
}
