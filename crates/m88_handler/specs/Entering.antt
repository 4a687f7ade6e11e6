-- How a data fault is taken by a handler, what the monitor's own service would make of it, and why a handler can't
-- return ("Exception Processing": data access exception; return from an exception).
use Rattle.std.specs.Prelude.{ℕ, Bool, false, not, List, [], ◌∷◌, Option, Some, None, ◌==◌, if◌then◌else◌}
use Rattle.m88_base.specs.Pages.{every_page}
use Rattle.m88_base.specs.Reg.{with_register}
use Rattle.m88_base.specs.Slot.{slot_of}
use Rattle.m88_ctrl.specs.ControlRegisters.{ControlRegisters, at_start, handler_of}
use Rattle.m88_event.specs.declared.record.Record.{Record}
use Rattle.m88_isa.specs.Address.{after_bytes}
use Rattle.m88_isa.specs.Bus.{in_words}
use Rattle.m88_isa.specs.Machine.{Program, opening}
use Rattle.m88_isa.specs.Triples.{accesses_in}
use Rattle.m88_isa.specs.Vector.{data_access}
use Rattle.m88_isa.specs.declared.planned.Access.{Access}
use Rattle.m88_monitor.specs.Serving.{Serving}
use Rattle.m88_serving.specs.Faults.{is_status}
use Rattle.m88_serving.specs.Serving.{control_left, serving_with}
use Rattle.m88_handler.specs.Machine.{Handling, is_frozen}
use Rattle.m88_handler.specs.declared.cause.Cause.{Cause}
use Rattle.m88_handler.specs.declared.cause.Cause.TheVariants.{Sfrz, Epsr, Ssbr, Sfip}

-- a data fault with no board: its record, the numbers in the registers, and the words of data memory; every page is
-- absent
pub record Faulted : Type 0 where
  pub fault : Record
  pub given : List ℕ
  pub bus : ℕ → ℕ

-- the same of its parts
abbrev pub faulted : Record → List ℕ → (ℕ → ℕ) → Faulted
faulted fault given bus = record { fault = fault; given = given; bus = bus }

-- what the monitor finds then
abbrev pub serving_of_fault : Faulted → Serving
serving_of_fault f = record (serving_with f.fault f.bus) { numbers = f.given; absent = every_page }

-- the registers as a handler finds them: one that waits for a load reads as 0
unfoldable pub found : List Access → List ℕ → List ℕ
found [] regs = regs
found (a ∷ pending) regs = found pending (if a.write then regs else with_register a.reg 0 regs)

-- where the handler of data faults begins: VBR is 0
abbrev pub entry_address : ℕ
entry_address = handler_of (at_start false).vbr data_access

-- what a handler works on when it is entered: its own memory is as linked
unfoldable pub entering : Program → Faulted → Handling
entering p f = record {
  regs = found (accesses_in f.fault.triples) f.given;
  pc = entry_address;
  next = after_bytes entry_address 4;
  control = control_left f.fault;
  own = in_words (opening p).memory;
  console = [];
  stopped = false;
  steps = 0;
  user = f.bus;
  absent = every_page;
}

-- why a return can't be made, if it can't: the shadow registers aren't frozen, the status of the program is none, a
-- register would wait for ever, or FIP would be passed over
abbrev pub return_fault : ControlRegisters → Option Cause
return_fault c =
    if not (is_frozen c) then Some Sfrz
    else if not (is_status c.epsr) then Some Epsr
    else if not (c.ssbr == 0) then Some Ssbr
    else if not (slot_of c.sfip).v then Some Sfip
    else None
