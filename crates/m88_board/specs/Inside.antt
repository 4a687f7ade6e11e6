-- Words for the contracts of private functions alone: no promise of the program names them.
pub mod Turns
pub mod NoInstruction
pub mod Briefly
pub mod Events
pub mod Accesses
pub mod Routes
pub mod Books
pub mod Going
