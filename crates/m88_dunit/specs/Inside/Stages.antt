-- The stages of the data unit, each by its words, and the accesses that they are.
use Rattle.std.specs.Prelude.{ℕ, ◌≡◌, ◌≤◌, map, List, Option, Some, None, All, length, if◌then◌else◌}
use Rattle.m88_isa.specs.Held.{most_pending}
use Rattle.m88_isa.specs.Memory.{IsWordAccess}
use Rattle.m88_isa.specs.Operands.{bit_of}
use Rattle.m88_isa.specs.Triples.{access_in, triple_of}
use Rattle.m88_isa.specs.declared.planned.Access.{Access}
use Rattle.m88_dunit.specs.declared.stage.Stage.{Stage}

-- what holds of the accesses that are pending: there are at most three, each one that the data unit can make
pub record ArePending (pending : List Access) : Type 0 where
  pub few : length pending ≤ most_pending
  pub made : All IsWordAccess pending

-- the set of the register that an access loads, if there is one
abbrev pub loaded_set : Option Access → ℕ
loaded_set None = 0
loaded_set (Some a) = if a.write then 0 else bit_of a.reg

-- the accesses of stages, each told by its words
abbrev pub staged : List Stage → List Access
staged stages = map (λ stage. access_in stage.words) stages

-- a stage has the words of an access that the data unit can make
pub record IsStage (stage : Stage) : Type 0 where
  pub made : IsWordAccess (access_in stage.words)
  pub words : triple_of (access_in stage.words) ≡ stage.words

-- what holds of the stages: there are at most three, each with the words of an access that the data unit can make
pub record AreStages (stages : List Stage) : Type 0 where
  pub few : length stages ≤ most_pending
  pub each : All IsStage stages
