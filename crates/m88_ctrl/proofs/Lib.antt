-- What only helps the proofs: the carry by its mask.
pub mod Carry
