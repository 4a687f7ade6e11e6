-- What the contracts of private functions cite.
pub mod Doings
pub mod Sheets
pub mod Running
