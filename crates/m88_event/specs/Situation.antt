-- What the next event depends on, and the record that a data fault would leave ("Exception Processing": data access
-- exception).
use Rattle.std.specs.Prelude.{ℕ, Bool, List}
use Rattle.m88_base.specs.RegisterSet.{register_bits}
use Rattle.m88_base.specs.Slot.{slot_word}
use Rattle.m88_base.specs.declared.slot.Slot.{Slot}
use Rattle.m88_isa.specs.Bus.{waits_for}
use Rattle.m88_isa.specs.Machine.{Program}
use Rattle.m88_isa.specs.Triples.{triples_of}
use Rattle.m88_isa.specs.declared.planned.Access.{Access}
use Rattle.m88_event.specs.Shadow.{fip_of, nip_of, status_of}
use Rattle.m88_event.specs.declared.record.Record.{Record}

-- registers, carry, MXM and the two addresses after the instructions that are retired, XIP, the mark that a fetched
-- instruction is passed over, the mark that no more may be issued, the pending transactions, the absent pages, and
-- the event's number
pub record Situation : Type 0 where
  pub regs : List ℕ
  pub carry : Bool
  pub mxm : Bool
  pub pc : ℕ
  pub next : ℕ
  pub xip : Slot
  pub bubble : Bool
  pub idle : Bool
  pub pending : List Access
  pub absent : ℕ → Bool
  pub event : ℕ

-- the record that a data fault leaves
unfoldable pub record_of : Program → Situation → Record
record_of p s = record {
  event = s.event;
  epsr = status_of s.carry s.mxm;
  sxip = slot_word s.xip;
  snip = slot_word (nip_of p s.bubble s.xip s.pc);
  sfip = slot_word (fip_of p s.bubble s.pc s.next);
  ssbr = register_bits (waits_for s.pending);
  triples = triples_of s.pending;
}
