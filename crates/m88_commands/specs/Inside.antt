-- Words for the contracts of private functions; no promise of the program names them.
pub mod Reading
pub mod Inputs
pub mod Placing
pub mod Drawing
pub mod Reply
pub mod Fronts
pub mod Running
