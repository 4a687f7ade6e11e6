-- What only helps the proofs.
pub mod Verdicts
pub mod Entered
pub mod Keeping
