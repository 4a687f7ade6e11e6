-- An access that the service makes.
use Rattle.std.specs.Prelude.{◌≡◌, if◌then◌else◌}
use Rattle.m88_base.specs.Reg.{with_register}
use Rattle.m88_ctrl.specs.ControlRegisters.{ControlRegisters}
use Rattle.m88_isa.specs.Bus.{bus_after, loaded}
use Rattle.m88_isa.specs.declared.planned.Access.{Access}
use Rattle.m88_mem.specs.DataBus.{MemoryView, absent_of, bus_of}
use Rattle.m88_scoreboard.specs.Registers.{Registers}
use Rattle.m88_monitor.specs.Serving.{KeepsRest, with_loaded}

-- an access was made whose page is present: a load has its register and its bit in SSBR, a store its word, and the rest
-- stays
pub record IsMade (a : Access) (old : ControlRegisters) (file : Registers) (memory : MemoryView) (new : ControlRegisters)
    (file' : Registers) (memory' : MemoryView) : Type 0 where
  pub control : new ≡ with_loaded a old
  pub numbers : file'.numbers
      ≡ (if a.write then file.numbers else with_register a.reg (loaded a (bus_of memory)) file.numbers)
  pub bus : bus_of memory' ≡ bus_after a (bus_of memory)
  pub absent : absent_of memory' ≡ absent_of memory
  pub rest : KeepsRest file memory file' memory'
