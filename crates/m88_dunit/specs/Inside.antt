-- Words for the contracts of private functions alone: no promise of the data unit names them.
pub mod Stages
