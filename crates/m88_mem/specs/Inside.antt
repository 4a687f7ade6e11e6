-- Words for the contracts of private functions alone: no promise of the program names them.
pub mod Frames
pub mod Changes
pub mod Lines
pub mod Reads
pub mod Marks
