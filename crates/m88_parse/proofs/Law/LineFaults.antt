-- The laws of the faults of a line, from the readers of single tokens up to whole lines.
pub mod Readers
pub mod TokenByToken
pub mod OneFault
pub mod OwnSigns
pub mod Halves
pub mod WholeOperations
pub mod WholeLines
