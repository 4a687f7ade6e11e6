-- What the contracts of private functions cite.
pub mod Bytes
pub mod Contents
pub mod Seen
pub mod Calls
pub mod Told
pub mod Came
