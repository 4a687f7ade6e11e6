-- What those above may use of extended runs without a call: a run comes to one outcome.
pub use Rattle.m88_emul.proofs.Walks.{one_outcome as one_extended_outcome}
