-- The laws of handlers that proofs above cite.

-- An entry is kept exactly where what the handler left is what the monitor's own service leaves.
pub use Rattle.m88_handler.proofs.Kept.{each_kept_is_alike}
