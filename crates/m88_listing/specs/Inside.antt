-- Words for the contracts of private functions alone: no promise of the program names them.
pub mod Parts
pub mod Replies
pub mod Slots
pub mod Pushed
