-- The laws of the service of accesses that proofs above cite.

-- A triple by its place is the one of the control registers, and a load leaves the triples as they are.
pub use Rattle.m88_monitor.proofs.Steps.{by_place}
pub use Rattle.m88_monitor.proofs.Steps.{same_triple}
-- The service of a triple leaves those behind it.
pub use Rattle.m88_monitor.proofs.Steps.{second_kept, third_kept, third_kept_again}
-- The service of the triples of up to three accesses is what these do, one after the other.
pub use Rattle.m88_monitor.proofs.Pending.{served_cells, three_steps}
unfoldable pub use Rattle.m88_monitor.proofs.Pending.{steps_of}
