-- The source of an image that can be edited, which words of an image are code, and what holds of every such source.
pub mod Places
pub mod Hints
pub mod Said
pub mod Flow
pub mod Code
pub mod Labels
pub mod Data
pub mod Source
pub mod Targets
pub mod Insertion
pub mod Request
pub mod Inputs
pub mod Answer
pub mod Laws
pub mod Inside
