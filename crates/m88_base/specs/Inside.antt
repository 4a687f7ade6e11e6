-- Words for the contracts of private functions alone: no promise of the program names them.
pub mod LineEnd
pub mod Placing
pub mod Blocks
pub mod Kept
