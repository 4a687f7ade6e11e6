-- What a reader of the promises must believe.
pub mod Columns
pub mod Rows
pub mod Entries
pub mod Sums
pub mod Listing
pub mod Settled
pub mod Refused
pub mod Answer
pub mod Told
pub mod Laws
pub mod Inside
