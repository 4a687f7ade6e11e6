-- Words for the contracts of private functions alone: no promise of the program names them.
pub mod Appended
pub mod Hinting
pub mod Asked
pub mod Finding
pub mod Members
pub mod Replies
pub mod Walks
pub mod Words
