-- What became of reading an input, for those who go on with the data fault that it tells.
use Rattle.std.specs.Prelude.{List, ℕ, ◌≡◌, Err}
use Rattle.m88_serving.specs.Cases.{Case}
use Rattle.m88_serving.specs.Verdict.{serve_verdict}
use Rattle.m88_serving.specs.declared.telling.ToldCase.{ToldCase}
use Rattle.m88_serving.specs.declared.telling.Untold.{Untold}
use Rattle.m88_serving.specs.declared.telling.Untold.TheVariants as untold

-- the data fault that was told, as a case
abbrev pub case_told : ToldCase → Case
case_told told = record { fault = told.fault; words = told.words.items }

-- it is refused with that fault, unless memory ran out
abbrev pub IsUntold : List ℕ → Untold → Type 0
IsUntold input (untold.Refused fault) = serve_verdict input ≡ Err fault
IsUntold input untold.Memory = Unit {0}
