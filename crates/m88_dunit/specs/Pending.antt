-- The accesses that the data unit holds ("Data Unit": its three stages).
use Rattle.std.specs.Prelude.{◌<◌, ◌≤◌}
use Rattle.m88_isa.specs.Memory.{IsWordAccess}
use Rattle.m88_isa.specs.declared.planned.Accesses.{Accesses}

-- each of the accesses that are there is one that the data unit can make
pub record CanIssue (accesses : Accesses) : Type 0 where
  pub count : accesses.count ≤ 2
  pub first : 0 < accesses.count → IsWordAccess accesses.first
  pub second : 1 < accesses.count → IsWordAccess accesses.second
