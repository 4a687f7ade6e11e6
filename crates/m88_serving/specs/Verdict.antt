-- The verdict on an input: what it tells, or its first fault.
use Rattle.std.specs.Prelude.{◌≡◌, ℕ, List, Option, Some, None, Result, Ok, Err}
use Rattle.m88_base.specs.Lines.{lines_of}
use Rattle.m88_serving.specs.Cases.{Case, case_in}
use Rattle.m88_serving.specs.Faults.{case_fault}
use Rattle.m88_serving.specs.declared.fault.ServeFault.{ServeFault}
use Rattle.m88_serving.specs.declared.fault.ServeKind.TheVariants as kind

-- a case that has no fault
abbrev pub faultless : Case → Option ServeFault → Result Case ServeFault
faultless c None = Ok c
faultless c (Some fault) = Err fault

-- the form comes first, and then what is told
abbrev pub case_verdict : Result Case ℕ → Result Case ServeFault
case_verdict (Err number) = Err (record { line = number; kind = kind.Form })
case_verdict (Ok c) = faultless c (case_fault c)

-- the verdict on an input
unfoldable pub serve_verdict : List ℕ → Result Case ServeFault
serve_verdict input = case_verdict (case_in (lines_of input))

-- an input is accepted
pub record IsTakenCase (input : List ℕ) : Type 0 where
  pub told : Case
  pub accepted : serve_verdict input ≡ Ok told
