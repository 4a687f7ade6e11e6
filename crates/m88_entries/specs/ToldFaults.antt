-- A data fault with registers, as the code has it, for those who go on with it.
use Rattle.std.specs.Prelude.{Result, Err, None, ◌≡◌, slice_index}
use Rattle.m88_mem.specs.DataBus.{image_bus}
use Rattle.m88_serving.specs.Faults.{record_fault}
use Rattle.m88_serving.specs.Serving.{named_bus}
use Rattle.m88_serving.specs.Told.{case_told}
use Rattle.m88_serving.specs.declared.fault.ServeFault.{ServeFault}
use Rattle.m88_serving.specs.declared.telling.Untold.{Untold}
use Rattle.m88_serving.specs.declared.telling.Untold.TheVariants as untold
use Rattle.m88_entries.specs.Told.{Told}
use Rattle.m88_entries.specs.declared.told.ToldFault.{ToldFault}

-- what was told
abbrev pub told_by : ToldFault → Told
told_by told = record { fault = case_told told.case; given = told.given }

-- a verdict refuses with that fault, unless memory ran out
abbrev pub IsUntoldAt : {X : Type 0} → Result X ServeFault → Untold → Type 0
IsUntoldAt verdict (untold.Refused fault) = verdict ≡ Err fault
IsUntoldAt verdict untold.Memory = Unit {0}

-- what was told can be given to a handler
pub record IsUsable (told : ToldFault) : Type 0 where
  pub fault : record_fault told.case.fault ≡ None
  pub image : image_bus told.case.image ≡ named_bus told.case.words.items
  pub zero : slice_index told.given 0 ≡ 0
