-- Data accesses as they are issued, answered and finished.
use Rattle.std.specs.Prelude.{ℕ, not, List, [], ◌≡◌, ◌&&◌, ◌++◌, drop, take, length}
use Rattle.m88_ctrl.specs.ControlRegisters.{ControlRegisters}
use Rattle.m88_ctrl.specs.declared.frame.Restart.{Restart}
use Rattle.m88_event.specs.Choice.{touches_page}
use Rattle.m88_event.specs.declared.record.Record.{Record}
use Rattle.m88_isa.specs.Bus.{after_accesses, bus_after_all, listed, waits_for}
use Rattle.m88_isa.specs.declared.planned.Access.{Access}
use Rattle.m88_isa.specs.declared.planned.Accesses.{Accesses}
use Rattle.m88_mem.specs.DataBus.{MemoryView, absent_of, bus_of}
use Rattle.m88_scoreboard.specs.Registers.{Registers, none_waits, waiting_of}
use Rattle.m88_board.specs.Board.{cells_in}
use Rattle.m88_board.specs.Kept.{PartsAgree}
use Rattle.m88_board.specs.Shown.{IsRecordOf, ShowsFault, rest_of}

-- accesses were put behind the pending ones, whose registers wait, and no number in a register changed
pub record PutsIn (accesses : Accesses) (old : List Access) (file : Registers) (new : List Access) (file' : Registers)
    : Type 0 where
  pub pending : new ≡ old ++ listed accesses
  pub numbers : file'.numbers ≡ file.numbers
  pub waiting : waiting_of file' ≡ waits_for new

-- the oldest transaction was answered: the others are pending, the parts agree on them, they lead to the state that was
-- led to before, and memory has the words of that one transaction
pub record AnswersOldest (old : List Access) (file : Registers) (memory : MemoryView) (new : List Access)
    (file' : Registers) (memory' : MemoryView) : Type 0 where
  pub pending : new ≡ drop 1 old
  pub agree : PartsAgree new file' memory'
  pub cells : after_accesses new (cells_in file' memory') ≡ after_accesses old (cells_in file memory)
  pub bus : bus_of memory' ≡ bus_after_all (take 1 old) (bus_of memory)
  pub absent : absent_of memory' ≡ absent_of memory
  pub image : memory'.image ≡ memory.image

-- all pending transactions were finished by the service of their fault, as many as are told: none is pending and no
-- register waits, registers and words are those that they led to, and their pages were supplied; execution goes on by
-- the words of the record, which the control registers show
pub record FinishesAll (fault : Record) (old : List Access) (control : ControlRegisters) (file : Registers)
    (memory : MemoryView) (done : ℕ) (restart : Restart) (new : List Access) (control' : ControlRegisters)
    (file' : Registers) (memory' : MemoryView) : Type 0 where
  pub pending : new ≡ []
  pub cells : cells_in file' memory' ≡ after_accesses old (cells_in file memory)
  pub waiting : waiting_of file' ≡ none_waits
  pub absent : absent_of memory' ≡ (λ page. absent_of memory page && not (touches_page old page))
  pub image : memory'.image ≡ memory.image
  pub psr : control'.psr ≡ control.psr
  pub counted : done ≡ length old
  pub snip : restart.snip ≡ fault.snip
  pub sfip : restart.sfip ≡ fault.sfip
  pub shows : IsRecordOf fault old control → ShowsFault fault control'
  pub rest : rest_of control' ≡ rest_of control
