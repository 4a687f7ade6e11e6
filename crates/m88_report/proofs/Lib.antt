-- Lemmas on lists: elements with their numbers, and arrays of what a function gives; Laws is for those above.
pub mod Numbered
pub mod Mapped
pub mod Laws
