-- What only helps the proofs.
pub mod Texts
pub mod Marked
pub mod Taken
pub mod Puts
pub mod Named
pub mod Making
pub mod Written
pub mod Verdicts
pub mod Dmts
pub mod Emptied
pub mod Readback
pub mod Touched
pub mod Alike
pub mod Faulted
pub mod CaughtUp
pub mod Promises
pub mod Laws
