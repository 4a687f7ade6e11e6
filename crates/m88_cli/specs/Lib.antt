-- What a reader of the promises must believe.
pub mod Calls
