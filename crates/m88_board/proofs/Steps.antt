-- What a board looks like after its parts have moved, choice by choice.
use Rattle.std.specs.Prelude.{ℕ, Bool, true, false, not, List, [], ◌∷◌, ◌++◌, Some, ◌≡◌, ◌+◌, ◌&&◌, drop, take, length, if◌then◌else◌}
use Rattle.std.proofs.Common.{refl, sym, ap, ◌∙◌}
use Rattle.m88_base.specs.Pages.{every_page}
use Rattle.m88_base.specs.Slot.{valid_slot}
use Rattle.m88_ctrl.specs.ControlRegisters.{ControlRegisters, carry_of, mxm_of}
use Rattle.m88_event.specs.Choice.{end_by, evicts, faults, finishes, issues, passes, replies, serves, touches_page}
use Rattle.m88_event.specs.declared.happened.End.{End}
use Rattle.m88_event.specs.declared.record.Record.{Record}
use Rattle.m88_isa.specs.Address.{after_bytes}
use Rattle.m88_isa.specs.Bus.{after_accesses, bus_after_all}
use Rattle.m88_isa.specs.Effect.{Change}
use Rattle.m88_isa.specs.History.{after_turn, cells_after, change_accesses}
use Rattle.m88_isa.specs.Machine.{Stop}
use Rattle.m88_isa.specs.declared.planned.Access.{Access}
use Rattle.m88_iunit.specs.Pointers.{Pointers, word_behind}
use Rattle.m88_mem.specs.DataBus.{MemoryView, absent_of, bus_of}
use Rattle.m88_scoreboard.specs.Registers.{Registers}
use Rattle.m88_board.specs.Board.{BoardView, cells_in, completed_of, local_of, next_of, pc_of}
use Rattle.m88_board.specs.Inside.Events.{Does}
use Rattle.m88_board.specs.Inside.Turns.{IsAdvanced}

-- FIP, which is always valid, is next where a bubble is passed over
pc_passed : (slots : Pointers) (e : Bool) → slots.nip.v ≡ false → slots.fip.v ≡ true →
    pc_of (record { xip = slots.xip; nip = slots.fip; fip = valid_slot (word_behind slots.fip.addr) e }) ≡ pc_of slots
pc_passed slots e bubble valid =
    ap (λ (v : Bool). if v then slots.fip.addr else word_behind slots.fip.addr) valid
    ∙ sym (ap (λ (v : Bool). if v then slots.nip.addr else slots.fip.addr) bubble)

next_passed : (slots : Pointers) (e : Bool) → slots.nip.v ≡ false → slots.fip.v ≡ true →
    next_of (record { xip = slots.xip; nip = slots.fip; fip = valid_slot (word_behind slots.fip.addr) e }) ≡ next_of slots
next_passed slots e bubble valid =
    ap (λ (v : Bool). if v then word_behind slots.fip.addr else after_bytes (word_behind slots.fip.addr) 4) valid
    ∙ sym (ap (λ (v : Bool). if v then slots.fip.addr else after_bytes slots.fip.addr 4) bubble)

pub passed : (fault : Record) (b : BoardView) (slots : Pointers) (e : Bool) →
    b.slots.nip.v ≡ false →
    b.slots.fip.v ≡ true →
    slots ≡ record { xip = b.slots.xip; nip = b.slots.fip; fip = valid_slot (word_behind b.slots.fip.addr) e } →
    Does passes fault b (record b { slots = slots })
unfolding local_of completed_of
passed fault b slots e bubble valid is = record {
  moved = λ i. record (local_of b) {
    completed = record (completed_of b) {
      pc = (ap pc_of is ∙ pc_passed b.slots e bubble valid) i;
      next = (ap next_of is ∙ next_passed b.slots e bubble valid) i;
    };
    xip = ap (λ (s : Pointers). s.xip) is i;
    bubble = (ap (λ (s : Pointers). not s.nip.v) is ∙ ap not valid) i;
  };
  same = record { limit = refl; mxm = refl; named = refl; image = refl; begun = refl };
}

-- the oldest transaction is answered
pub replied : (fault : Record) (b : BoardView) (pending : List Access) (file : Registers) (memory : MemoryView) →
    pending ≡ drop 1 b.pending →
    after_accesses pending (cells_in file memory) ≡ after_accesses b.pending (cells_in b.file b.memory) →
    bus_of memory ≡ bus_after_all (take 1 b.pending) (bus_of b.memory) →
    absent_of memory ≡ absent_of b.memory →
    memory.image ≡ b.memory.image →
    Does replies fault b (record b {
      pending = pending;
      file = file;
      memory = memory;
      book = record b.book { done = b.done + 1; answers = b.answers + 1 };
    })
unfolding local_of completed_of
replied fault b pending file memory left cells bus absent image = record {
  moved = λ i. record (local_of b) {
    completed = record (completed_of b) {
      regs = (cells i).regs;
      bus = (cells i).bus;
    };
    bus = bus i;
    pending = left i;
    absent = absent i;
    done = b.done + 1;
    answers = b.answers + 1;
  };
  same = record { limit = refl; mxm = refl; named = refl; image = image; begun = refl };
}

-- the pending transactions are finished by the monitor, and the record stays
pub faulted : (fault : Record) (b : BoardView) (file : Registers) (memory : MemoryView) (control : ControlRegisters)
    (slots : Pointers) (done : ℕ) →
    cells_in file memory ≡ after_accesses b.pending (cells_in b.file b.memory) →
    bus_of memory ≡ bus_after_all b.pending (bus_of b.memory) →
    absent_of memory ≡ (λ page. absent_of b.memory page && not (touches_page b.pending page)) →
    memory.image ≡ b.memory.image →
    carry_of control ≡ carry_of b.control →
    mxm_of control ≡ mxm_of b.control →
    slots ≡ b.slots →
    done ≡ b.done + length b.pending →
    Does faults fault b (record b {
      slots = slots;
      pending = [];
      file = file;
      memory = memory;
      control = control;
      book = record b.book { done = done; records = b.records ++ fault ∷ [] };
    })
unfolding local_of completed_of after_accesses
faulted fault b file memory control slots done cells bus absent image carry mxm same count = record {
  moved = λ i. record (local_of b) {
    completed = record (completed_of b) {
      regs = (cells i).regs;
      carry = carry i;
      mxm = mxm i;
      pc = pc_of (same i);
      next = next_of (same i);
      bus = (cells i).bus;
    };
    bus = bus i;
    pending = [];
    xip = (same i).xip;
    bubble = not (same i).nip.v;
    absent = absent i;
    done = count i;
    records = b.records ++ fault ∷ [];
  };
  same = record { limit = refl; mxm = mxm; named = refl; image = image; begun = refl };
}

-- every page is absent
pub evicted : (fault : Record) (b : BoardView) (memory : MemoryView) →
    bus_of memory ≡ bus_of b.memory →
    absent_of memory ≡ every_page →
    memory.image ≡ b.memory.image →
    Does evicts fault b (record b { memory = memory })
unfolding local_of completed_of
evicted fault b memory bus absent image = record {
  moved = λ i. record (local_of b) {
    completed = record (completed_of b) {
      regs = (after_accesses b.pending (record { regs = b.file.numbers; bus = bus i })).regs;
      bus = (after_accesses b.pending (record { regs = b.file.numbers; bus = bus i })).bus;
    };
    bus = bus i;
    absent = absent i;
  };
  same = record { limit = refl; mxm = refl; named = refl; image = image; begun = refl };
}

-- the program ends
pub finished : (fault : Record) (stop : Stop) (b : BoardView) (control : ControlRegisters) (end : End) →
    end ≡ end_by stop →
    carry_of control ≡ carry_of b.control →
    mxm_of control ≡ mxm_of b.control →
    Does (finishes stop) fault b (record b { control = control; book = record b.book { end = Some end } })
unfolding local_of completed_of
finished fault stop b control end by carry mxm = record {
  moved = λ i. record (local_of b) {
    completed = record (completed_of b) {
      carry = carry i;
      mxm = mxm i;
    };
    ended = Some (by i);
  };
  same = record { limit = refl; mxm = mxm; named = refl; image = refl; begun = refl };
}

-- a byte is put out
pub put_out : (fault : Record) (byte : ℕ) (b : BoardView) (slots : Pointers) (control : ControlRegisters) →
    IsAdvanced b.slots slots (next_of b.slots) (after_bytes (next_of b.slots) 4) false →
    carry_of control ≡ carry_of b.control →
    mxm_of control ≡ mxm_of b.control →
    Does (serves byte) fault b (record b {
      slots = slots;
      control = control;
      book = record b.book { retired = b.retired + 1; out = b.out ++ byte ∷ [] };
    })
unfolding local_of completed_of after_turn
put_out fault byte b slots control on carry mxm = record {
  moved = λ i. record (local_of b) {
    completed = record (completed_of b) {
      carry = carry i;
      mxm = mxm i;
      pc = on.here i;
      next = on.behind i;
      out = b.out ++ byte ∷ [];
    };
    xip = on.xip i;
    bubble = on.bubble_is i;
    retired = b.retired + 1;
  };
  same = record { limit = refl; mxm = mxm; named = refl; image = refl; begun = refl };
}

-- an instruction is issued: what it writes at once is written, and its accesses are pending
pub issued : (fault : Record) (change : Change) (b : BoardView) (slots : Pointers) (pending : List Access) (file : Registers)
    (memory : MemoryView) (control : ControlRegisters) →
    IsAdvanced b.slots slots change.after.0 change.after.1 change.bubble →
    pending ≡ b.pending ++ change_accesses change →
    after_accesses (b.pending ++ change_accesses change) (cells_in file memory) ≡ cells_after change (completed_of b) →
    bus_of memory ≡ bus_of b.memory →
    absent_of memory ≡ absent_of b.memory →
    memory.image ≡ b.memory.image →
    carry_of control ≡ change.carry →
    mxm_of control ≡ mxm_of b.control →
    Does (issues change) fault b (record b {
      slots = slots;
      pending = pending;
      file = file;
      memory = memory;
      control = control;
      book = record b.book { retired = b.retired + 1 };
    })
unfolding local_of completed_of after_turn
issued fault change b slots pending file memory control on joined cells bus absent image carry mxm =
    let all : after_accesses pending (cells_in file memory) ≡ cells_after change (completed_of b) =
    ap (λ (xs : List Access). after_accesses xs (cells_in file memory)) joined ∙ cells in
    record {
      moved = λ i. record (local_of b) {
        completed = record (completed_of b) {
          regs = (all i).regs;
          carry = carry i;
          mxm = mxm i;
          pc = on.here i;
          next = on.behind i;
          bus = (all i).bus;
        };
        bus = bus i;
        pending = joined i;
        xip = on.xip i;
        bubble = on.bubble_is i;
        absent = absent i;
        retired = b.retired + 1;
      };
      same = record { limit = refl; mxm = mxm; named = refl; image = image; begun = refl };
    }
