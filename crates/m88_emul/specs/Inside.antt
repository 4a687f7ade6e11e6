-- What the contracts of private functions cite.
pub mod Tasks
pub mod Places
pub mod Works
pub mod Settled
pub mod Boards
