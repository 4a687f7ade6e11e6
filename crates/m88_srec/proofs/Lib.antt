-- What only helps the proofs: a record written and read, then texts; Laws is for those above.
pub mod Cases
pub mod Framing
pub mod Free
pub mod Reading
pub mod Law
pub mod Refusing
pub mod Cutting
pub mod Spelled
pub mod Trip
pub mod Turns
pub mod Sizes
pub mod Fronts
pub mod Feeding
pub mod Whole
pub mod Fed
pub mod Streamed
pub mod Laws
