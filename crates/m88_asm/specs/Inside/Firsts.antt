-- Answers of calls that one first fault may end.
use Rattle.std.specs.Prelude.{◌≡◌, ◌⊎◌, Option, None, Some, Result, IfErr, IfOk, OnOk}
use Rattle.m88_asm.specs.Fault.{memory_ran_out}
use Rattle.m88_asm.specs.declared.fault.AsmFault.{AsmFault}

-- what is answered is right where no fault comes first, and else it is the first fault, or memory ran out
pub record AnswersFirst {T : Type 0} (result : Result T AsmFault) (first : Option AsmFault) (IsRight : T → Type 0)
    : Type 0 where
  pub right : IfOk result IsRight
  pub clean : OnOk result (first ≡ None)
  pub fault : IfErr result (λ e. (e ≡ memory_ran_out) ⊎ (first ≡ Some e))
