-- What contracts cite: the instruction pointers.
pub mod Pointers
