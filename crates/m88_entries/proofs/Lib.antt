-- What only helps the proofs.
pub mod Fronts
pub mod Splits
pub mod RegisterLines
pub mod Lefts
pub mod Tellings
