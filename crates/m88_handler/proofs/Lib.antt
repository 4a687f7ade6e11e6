-- What only helps the proofs.
pub mod Acts
pub mod Fetched
pub mod Running
pub mod Searching
pub mod Kept
pub mod Found
pub mod Served
pub mod Unready
pub mod Entries
pub mod Opened
pub mod Laws
