-- What those above may use of shared runs without a call: programs that share a board come to one thing.
pub use Rattle.m88_tasks.proofs.Ending.{shared_only}
