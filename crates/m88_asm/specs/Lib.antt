-- What a reader of the promises must believe.
pub mod Counters
pub mod Fault
pub mod Filled
pub mod Objects
pub mod Faults
pub mod Reasons
pub mod Units
pub mod Accepted
pub mod Images
pub mod Sources
pub mod Several
pub mod LinkedTexts
pub mod Held
pub mod Inside
