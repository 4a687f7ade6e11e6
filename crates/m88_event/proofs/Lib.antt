-- What only helps the proofs: letters, then the moves of a board, the end of a run and what lies behind a moment; Laws
-- is for those above.
pub mod Letters
pub mod Histories
pub mod Follows
pub mod Bound
pub mod Over
pub mod Precise
pub mod Past
pub mod Worked
pub mod Vanishing
pub mod Laws
