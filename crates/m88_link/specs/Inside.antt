-- Words for the contracts of private functions alone: no promise of the program names them.
pub mod Tables
pub mod Overlap
pub mod Findings
pub mod Exports
pub mod Resolved
pub mod Lent
pub mod Carried
pub mod Rows
pub mod Drafts
pub mod Walked
