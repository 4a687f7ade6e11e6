-- The laws of data faults that proofs above cite.

-- Each transaction of a record without a fault can be made, once the page of each store is ready.
pub use Rattle.m88_serving.proofs.Making.{can_make_all}
