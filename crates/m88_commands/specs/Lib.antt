-- What a reader of the promises must believe.
pub mod Limits
pub mod Pages
pub mod Words
pub mod Command
pub mod Inputs
pub mod Loading
pub mod Sources
pub mod TracedSources
pub mod Kinds
pub mod Answer
pub mod Watching
pub mod Reply
pub mod Bridge
pub mod Laws
pub mod Status
-- Words for the contracts of private functions.
pub mod Inside
