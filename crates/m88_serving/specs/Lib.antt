-- What a reader of the promises must believe.
pub mod Lines
pub mod Cases
pub mod Faults
pub mod Verdict
pub mod Told
pub mod Serving
pub mod Served
pub mod Laws
pub mod Inside
