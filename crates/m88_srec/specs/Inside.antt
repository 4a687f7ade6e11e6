-- Words for the contracts of private functions alone: no promise of the program names them.
pub mod Forms
pub mod Loads
pub mod Taking
pub mod Steps
pub mod Streams
