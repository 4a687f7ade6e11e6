-- What only helps the proofs: the scoreboard as a function.
pub mod Waits
