-- What a reader of the promises must believe: what lines tell of a data fault with registers, and what is written of an
-- entry.
pub mod Told
pub mod Left
pub mod ToldFaults
pub mod Inside
