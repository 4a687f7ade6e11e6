-- Words for the contracts of private functions alone: no promise of the crate names them.
pub mod Parts
