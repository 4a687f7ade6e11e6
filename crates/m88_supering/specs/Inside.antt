-- Words for the contracts of private functions alone: no promise of the program names them.
pub mod Replies
