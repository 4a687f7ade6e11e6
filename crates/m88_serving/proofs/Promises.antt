-- What holds of every input and of every word.
use Rattle.m88_serving.specs.Laws.{ServingLaws}
use Rattle.m88_serving.proofs.CaughtUp.{each_service_catches_up}
use Rattle.m88_serving.proofs.Dmts.{each_dmt_is_of_an_access}
use Rattle.m88_serving.proofs.Emptied.{each_leaves_none_waiting}
use Rattle.m88_serving.proofs.Faulted.{each_fault_is_served}

pub serving_laws : ServingLaws
serving_laws = record {
  accesses = each_dmt_is_of_an_access;
  waits = each_leaves_none_waiting;
  faults = each_fault_is_served;
  caught_up = each_service_catches_up;
}
