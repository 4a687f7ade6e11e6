-- What contracts cite: the board and its parts, what it hands over, what a walk along a run and its calls come to, what
-- is kept and told; Inside is for private contracts.
pub mod Board
pub mod Kept
pub mod Glances
pub mod Moves
pub mod Shown
pub mod Told
pub mod Walks
pub mod Calls
pub mod Parts
pub mod Handed
pub mod Contexts
pub mod Inside
