-- A board after an event, once software did the instruction at which it ended, if it does; and what lies behind each
-- moment of a run.
use Rattle.std.specs.Prelude.{ℕ, zero, suc, true, not, List, [], ◌∷◌, Option, Some, None, ◌≡◌, ◌≤◌, ◌+◌, ◌&&◌, length, map}
use Rattle.m88_isa.specs.Address.{after_bytes}
use Rattle.m88_isa.specs.Bus.{bus_after_all}
use Rattle.m88_isa.specs.Held.{instruction_at}
use Rattle.m88_isa.specs.Machine.{Program, turn}
use Rattle.m88_isa.specs.Memory.{access_of}
use Rattle.m88_event.specs.Local.{Local}
use Rattle.m88_event.specs.Shadow.{retired_pointer}
use Rattle.m88_event.specs.Timeline.{Moment}
use Rattle.m88_event.specs.declared.happened.End.{End}
use Rattle.m88_emul.specs.Aid.{Aid, with_all}
use Rattle.m88_emul.specs.Extended.{Deed, IsAlone, aided, alone, byte_seen, deed_at, deed_of, extended_state, transactions_before}
use Rattle.m88_emul.specs.Inside.Works.{Work, mends, transacts, work_before}
use Rattle.m88_emul.specs.Timeline.{has_place_in}
use Rattle.m88_emul.specs.declared.emulation.Emulation.{Emulation}

-- what software makes of a board that ended at an instruction that it has an aid for
abbrev pub completed_by : Aid → Local → Local
completed_by aid l = record l {
  completed = record l.completed {
    regs = with_all aid.writes l.completed.regs;
    pc = l.completed.next;
    next = after_bytes l.completed.next 4;
    bus = bus_after_all (map access_of aid.stores) l.completed.bus;
  };
  bus = bus_after_all (map access_of aid.stores) l.bus;
  xip = retired_pointer l.completed.pc;
  ended = None;
  absent = λ page. l.absent page && not (has_place_in aid.places page);
  retired = l.retired + 1;
}

-- what becomes of the next instruction of a board, by what it looks like
abbrev pub deed_seen : Program → Local → Deed
deed_seen p l =
    deed_of (turn p l.completed.regs l.completed.carry l.completed.mxm l.completed.pc l.completed.next)
    (instruction_at p l.completed.pc) l.completed.regs (byte_seen l.completed.bus)

-- a board with what software makes of it, by how it ended and what becomes of its next instruction
abbrev pub settled_by : Option End → Deed → Local → Local
settled_by None deed l = l
settled_by (Some end) (alone turn) l = l
settled_by (Some end) (aided vector aid) l = completed_by aid l

-- a board after an event with what software makes of it
unfoldable pub settled : Program → Local → Local
settled p l = settled_by l.ended (deed_seen p l) l

-- the instruction that software did, if it did one
abbrev pub emulated_by : Option End → Deed → Local → List Emulation
emulated_by None deed l = []
emulated_by (Some end) (alone turn) l = []
emulated_by (Some end) (aided vector aid) l =
    record { event = l.events; at = l.completed.pc; vector = vector } ∷ []

-- that of a board after an event
unfoldable pub newly_emulated : Program → Local → List Emulation
newly_emulated p l = emulated_by l.ended (deed_seen p l) l

-- software stored nothing
unfoldable pub HasNoMending : List Work → Type 0
HasNoMending [] = Unit {0}
HasNoMending (transacts a ∷ works) = HasNoMending works
HasNoMending (mends xs ∷ works) = ⊥

-- all that software stored lies before the transactions that aren't done
unfoldable pub IsMended : ℕ → List Work → Type 0
IsMended done [] = Unit {0}
IsMended zero (transacts a ∷ works) = HasNoMending works
IsMended (suc done) (transacts a ∷ works) = IsMended done works
IsMended done (mends xs ∷ works) = IsMended done works

-- what lies behind each moment: no more transactions are done than were made; all that software stored lies before
-- those that are pending; and the mark of the end is there only where software has no aid
pub record LiesBehind (p : Program) (m : Moment) : Type 0 where
  pub within : m.done ≤ length (transactions_before p m.retired)
  pub mended : IsMended m.done (work_before p m.retired)
  pub ended : m.ended ≡ true → IsAlone (deed_at p (extended_state p m.retired))
