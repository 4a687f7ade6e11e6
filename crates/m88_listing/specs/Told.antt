-- What is told of a source that is refused.
use Rattle.std.specs.Prelude.{ℕ, List}
use Rattle.m88_base.specs.Shown.{IsShownOf}
use Rattle.m88_base.specs.declared.refused.Refused.{Refused}
use Rattle.m88_asm.specs.Sources.{IsRefusedProgram}

-- where and why it is refused, and the line of the source there
abbrev pub IsToldOf : List ℕ → Refused → Type 0
IsToldOf source told = IsRefusedProgram 0 source told.refusal × IsShownOf source told
