-- What only helps the proofs: the registers that accesses load, then words that tell an access, then stages.
pub mod Loads
pub mod Told
pub mod WordsOf
pub mod Stages
