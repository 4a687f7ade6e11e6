-- What the parts of a board show at a moment of the timeline.
use Rattle.std.specs.Prelude.{ℕ, false, not, List, [], ◌∷◌, ◌≡◌, map, slice_index, if◌then◌else◌}
use Rattle.m88_base.specs.RegisterSet.{register_bits}
use Rattle.m88_base.specs.Slot.{slot_word}
use Rattle.m88_base.specs.Triple.{no_triple}
use Rattle.m88_ctrl.specs.ControlRegisters.{ControlRegisters, carry_of, entered, returned, triples_by_age}
use Rattle.m88_ctrl.specs.declared.frame.Frame.{Frame}
use Rattle.m88_event.specs.Shadow.{fip_of, status_of}
use Rattle.m88_event.specs.Timeline.{Moment, Run, absent_at, end_at, nip_at, xip_at}
use Rattle.m88_event.specs.declared.happened.Happened.{Happened}
use Rattle.m88_event.specs.declared.happened.Happened.TheVariants as happened
use Rattle.m88_event.specs.declared.record.Record.{Record}
use Rattle.m88_isa.specs.Bus.{in_words, waits_for}
use Rattle.m88_isa.specs.History.{bus_at, pending_at}
use Rattle.m88_isa.specs.ImageProgram.{IsProgramOf}
use Rattle.m88_isa.specs.Machine.{Program, state}
use Rattle.m88_isa.specs.Triples.{finished, triples_of}
use Rattle.m88_isa.specs.declared.planned.Access.{Access}
use Rattle.m88_iunit.specs.Pointers.{Pointers}
use Rattle.m88_mem.specs.DataBus.{MemoryView, absent_of, bus_of, ready_of}
use Rattle.m88_scoreboard.specs.Registers.{Registers, none_waits, waiting_of}
use Rattle.m88_board.specs.Board.{BoardView}
use Rattle.m88_board.specs.Kept.{AreReady}

-- XIP, NIP and FIP: the instruction retired last and the two behind it, or a bubble and its target
pub record ArePointers (p : Program) (m : Moment) (slots : Pointers) : Type 0 where
  pub xip : slots.xip ≡ xip_at p m.retired
  pub nip : slots.nip ≡ nip_at p m
  pub fip : slots.fip ≡ fip_of p m.bubble (state p m.retired).pc (state p m.retired).next

-- the registers: those wait that a pending load is to fill, and every other has its value of the history
pub record AreRegisters (p : Program) (m : Moment) (file : Registers) : Type 0 where
  pub waiting : waiting_of file ≡ waits_for (pending_at p m.retired m.done)
  pub values : (r : ℕ) → waits_for (pending_at p m.retired m.done) r ≡ false
      → slice_index file.numbers r ≡ slice_index (state p m.retired).regs r

-- memory: the image, the words after the transactions that are done, the absent pages, and the page of each pending
-- store ready
pub record IsDataBus (r : Run) (m : Moment) (memory : MemoryView) : Type 0 where
  pub image : IsProgramOf memory.image r.program
  pub words : bus_of memory ≡ bus_at r.program m.retired m.done
  pub absent : absent_of memory ≡ absent_at r m
  pub ready : AreReady (ready_of memory) (pending_at r.program m.retired m.done)

-- a record has the status, the registers that wait and the triples of the pending transactions
pub record IsRecordOf (fault : Record) (pending : List Access) (control : ControlRegisters) : Type 0 where
  pub epsr : fault.epsr ≡ control.psr
  pub ssbr : fault.ssbr ≡ register_bits (waits_for pending)
  pub triples : fault.triples ≡ triples_of pending

-- the control registers after a data fault was served: they show its record, PSR is EPSR again, no register is left in
-- SSBR, and VALID of each triple is cleared
pub record ShowsFault (fault : Record) (control : ControlRegisters) : Type 0 where
  pub epsr : control.epsr ≡ fault.epsr
  pub psr : control.psr ≡ fault.epsr
  pub sxip : control.sxip ≡ fault.sxip
  pub snip : control.snip ≡ fault.snip
  pub sfip : control.sfip ≡ fault.sfip
  pub ssbr : control.ssbr ≡ 0
  pub triples : triples_by_age control ≡ map finished fault.triples

-- the registers that no exception fills
abbrev pub rest_of : ControlRegisters → List ℕ
rest_of c = c.pid ∷ c.vbr ∷ c.sr0 ∷ c.sr1 ∷ c.sr2 ∷ c.sr3 ∷ []

-- the status: PSR is a user's with the carry and MXM of the history; from the program's end on EPSR is, and PSR has
-- that carry
pub record IsStatus (p : Program) (m : Moment) (control : ControlRegisters) : Type 0 where
  pub status : (if m.ended then control.epsr else control.psr)
      ≡ status_of (state p m.retired).carry (state p m.retired).mxm
  pub carry : carry_of control ≡ (state p m.retired).carry

-- what an exception saves where nothing is pending: the words of the instruction pointers
abbrev pub pointer_frame : Pointers → Frame
pointer_frame slots = record {
  ssbr = 0;
  sxip = slot_word slots.xip;
  snip = slot_word slots.nip;
  sfip = slot_word slots.fip;
  triples = no_triple ∷ no_triple ∷ no_triple ∷ [];
}

-- the control registers after an event, by what it says. A data fault leaves its record, and no other register changes.
-- The end of a program leaves its exception entered, and an output trap, which is retired first, the monitor's entered
-- and returned from. Any other event changes no register but PSR.
abbrev pub Leaves : Happened → BoardView → BoardView → Type 0
Leaves (happened.Faulted fault) old new =
    ShowsFault fault new.control × (rest_of new.control ≡ rest_of old.control)
Leaves (happened.Ended end) old new = new.control ≡ entered (pointer_frame old.slots) old.control
Leaves (happened.Served byte) old new =
    new.control ≡ returned (entered (pointer_frame new.slots) old.control)
Leaves _ old new = new.control ≡ record old.control { psr = new.control.psr }

-- nothing is pending at a moment, and all shows the state of the history: the instructions retired, the marks, the
-- registers, of which none waits, the carry, the output and the words of memory
pub record IsSettled (p : Program) (m : Moment) (b : BoardView) : Type 0 where
  pub retired : b.retired ≡ m.retired
  pub bubble : not b.slots.nip.v ≡ m.bubble
  pub ended : b.ended ≡ end_at p m
  pub waiting : waiting_of b.file ≡ none_waits
  pub registers : b.file.numbers ≡ (state p m.retired).regs
  pub carry : carry_of b.control ≡ (state p m.retired).carry
  pub out : b.out ≡ (state p m.retired).out
  pub words : bus_of b.memory ≡ in_words (state p m.retired).memory
