-- Units that have an image, and why one has none: no statement meets a fault, and no refusal of linking occurs.
use Rattle.std.specs.Prelude.{◌≡◌, ◌⊎◌, Some}
use Rattle.m88_parse.specs.declared.unit.Unit.{Unit as Source}
use Rattle.m88_link.specs.Faults.{memory_fault}
use Rattle.m88_link.specs.Refusal.{IsLinkable, IsRefused}
use Rattle.m88_asm.specs.declared.fault.UnitFault.{UnitFault}
use Rattle.m88_asm.specs.declared.fault.UnitFault.TheVariants.{Asm, Link}
use Rattle.m88_asm.specs.Fault.{memory_ran_out}
use Rattle.m88_asm.specs.Faults.{IsAssembled, unit_fault}
use Rattle.m88_asm.specs.Units.{unit_layout}

-- a unit that is accepted for linking
pub record IsAcceptedUnit (u : Source) : Type 0 where
  pub assembled : IsAssembled u
  pub linkable : IsLinkable (unit_layout u)

-- the first fault of a unit: that of its statements, else the refusal of its layout
abbrev pub IsFirstUnitFault : Source → UnitFault → Type 0
IsFirstUnitFault u (Asm fault) = unit_fault u ≡ Some fault
IsFirstUnitFault u (Link fault) = IsAssembled u × IsRefused (unit_layout u) fault

-- memory ran out, in assembling or in linking
abbrev pub IsOutOfMemory : UnitFault → Type 0
IsOutOfMemory (Asm fault) = fault ≡ memory_ran_out
IsOutOfMemory (Link fault) = fault ≡ memory_fault

-- what a call answers for a unit without an image: the unit's first fault, unless memory ran out
abbrev pub IsUnitFault : Source → UnitFault → Type 0
IsUnitFault u fault = IsOutOfMemory fault ⊎ IsFirstUnitFault u fault
