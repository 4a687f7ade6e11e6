-- Words for the contracts of private functions alone: no promise of the program names them.
pub mod Loads
pub mod Naming
pub mod Replies
