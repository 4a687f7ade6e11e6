-- The pending transactions are finished: what is seen of it, and what always holds of a board goes on to hold.
use Rattle.std.specs.Prelude.{ℕ, Bool, true, false, not, List, [], ◌∷◌, ◌++◌, All, ◌≡◌, ◌<◌, ◌+◌, ◌&&◌, is_some, length, if◌then◌else◌}
use Rattle.std.proofs.Common.{arith, sym, ap, ap₂, ◌∙◌, subst, length-append}
use Rattle.std.proofs.lemmas.List.Elements.{All-nil}
use Rattle.m88_base.specs.Image.{IsImage}
use Rattle.m88_ctrl.specs.ControlRegisters.{ControlRegisters}
use Rattle.m88_event.specs.Choice.{faults, touches_page}
use Rattle.m88_event.specs.Shadow.{status_of}
use Rattle.m88_event.specs.declared.record.Record.{Record}
use Rattle.m88_isa.proofs.Laws.{cells_bus}
use Rattle.m88_isa.specs.Bus.{LoadApart, Cells, after_accesses, waits_for}
use Rattle.m88_isa.specs.Memory.{IsWordAccess}
use Rattle.m88_isa.specs.declared.planned.Access.{Access}
use Rattle.m88_iunit.specs.Pointers.{Pointers}
use Rattle.m88_mem.specs.DataBus.{MemoryView, absent_of, ready_of}
use Rattle.m88_scoreboard.specs.Registers.{Registers, none_waits, waiting_of}
use Rattle.m88_board.proofs.Steps.{faulted}
use Rattle.m88_board.proofs.Stopping.{no_end}
use Rattle.m88_board.specs.Board.{BoardView, cells_in}
use Rattle.m88_board.specs.Kept.{AreReady, HasReadyPage, IsBehind, IsKept, SlotsAgree}
use Rattle.m88_board.specs.Inside.Events.{Does}
use Rattle.m88_board.proofs.Carry.{carry_by, mxm_by}
use Rattle.m88_board.proofs.Going.{still_going}
use Rattle.m88_board.proofs.Waiting.{none_wait_for_none}

-- the pending transactions were finished, as it is seen
pub does_fault : (b : BoardView) (file : Registers) (memory : MemoryView) (control : ControlRegisters) (slots : Pointers)
    (pending : List Access) (done : ℕ) (records : List Record) (fault : Record) →
    pending ≡ [] →
    cells_in file memory ≡ after_accesses b.pending (cells_in b.file b.memory) →
    absent_of memory ≡ (λ page. absent_of b.memory page && not (touches_page b.pending page)) →
    memory.image ≡ b.memory.image →
    control.psr ≡ b.control.psr →
    slots ≡ b.slots →
    done ≡ b.done + length b.pending →
    records ≡ b.records ++ (fault ∷ []) →
    Does faults fault b (record b {
      slots = slots;
      pending = pending;
      file = file;
      memory = memory;
      control = control;
      book = record b.book { done = done; records = records };
    })
does_fault b file memory control slots pending done records fault empty cells absent image psr same count joined =
    subst (λ (xs : List Access). Does faults fault b (record b {
      slots = slots;
      pending = xs;
      file = file;
      memory = memory;
      control = control;
      book = record b.book { done = done; records = records };
    })) (sym empty)
    (subst (λ (rs : List Record). Does faults fault b (record b {
      slots = slots;
      pending = [];
      file = file;
      memory = memory;
      control = control;
      book = record b.book { done = done; records = rs };
    })) (sym joined)
    (faulted fault b file memory control slots done cells
    (ap (λ (c : Cells). c.bus) cells ∙ cells_bus b.pending (cells_in b.file b.memory))
    absent image (carry_by b control psr) (mxm_by b control psr) same count))

-- the pending transactions were finished
pub kept_faulted : (b : BoardView) (file : Registers) (memory : MemoryView) (control : ControlRegisters) (slots : Pointers)
    (pending : List Access) (done : ℕ) (records : List Record) (fault : Record) →
    IsKept b →
    0 < length b.pending →
    pending ≡ [] →
    waiting_of file ≡ none_waits →
    memory.image ≡ b.memory.image →
    control.psr ≡ b.control.psr →
    slots ≡ b.slots →
    done ≡ b.done + length b.pending →
    records ≡ b.records ++ (fault ∷ []) →
    IsKept (record b {
      slots = slots;
      pending = pending;
      file = file;
      memory = memory;
      control = control;
      book = record b.book { done = done; records = records };
    })
kept_faulted b file memory control slots pending done records fault kept some empty waiting image psr same count joined =
    let going = still_going b kept some in
    let none = ap length empty in
    let more = ap length joined in
    let longer = length-append b.records (fault ∷ []) in
    let made = kept.made in
    let told = kept.told in
    record {
      parts = record {
        few = omega (arith, none);
        made = subst (λ (xs : List Access). All IsWordAccess xs) (sym empty) (All-nil IsWordAccess);
        apart = subst (λ (xs : List Access). LoadApart xs) (sym empty) tt;
        waiting = waiting ∙ none_wait_for_none ∙ ap waits_for (sym empty);
        ready = subst (λ (xs : List Access). AreReady (ready_of memory) xs) (sym empty) (All-nil (HasReadyPage (ready_of memory)));
      };
      slots = subst (λ (s : Pointers). SlotsAgree memory.image s) (sym same)
          (subst (λ i. SlotsAgree i b.slots) (sym image) kept.slots);
      image = subst IsImage (sym image) kept.image;
      bubbled = subst (λ (s : Pointers). s.nip.v ≡ false → IsBehind b.retired s) (sym same) kept.bubbled;
      unbubbled = subst (λ (s : Pointers). is_some b.ended ≡ true → s.nip.v ≡ true) (sym same) kept.unbubbled;
      status = ap (λ (t : Bool). if t then control.epsr else control.psr) going
          ∙ psr
          ∙ sym (ap (λ (t : Bool). if t then b.control.epsr else b.control.psr) going)
          ∙ kept.status
          ∙ ap₂ status_of (sym (carry_by b control psr)) (sym (mxm_by b control psr));
      drained = λ ended. empty;
      made = omega (arith, none, count, made);
      told = omega (arith, more, longer, some, count, told);
      put_out = kept.put_out;
      within = kept.within;
      early = kept.early;
      ends = kept.ends;
      ends_so = rw (no_end b.ended going) tt;
      small = kept.small;
      counted = kept.counted;
    }
