-- Words for the contracts of private functions; no promise of the program names them.
pub mod ScriptWords
pub mod Fronts
pub mod SessionKept
