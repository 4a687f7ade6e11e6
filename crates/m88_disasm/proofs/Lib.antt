-- What only helps the proofs: code, then texts read, then statements that give bytes and sources made of them; Laws is
-- for those above.
pub mod Names
pub mod Operands
pub mod Lines
pub mod Sizes
pub mod OneListing
pub mod Parts
pub mod Forms
pub mod Spoken
pub mod Rows
pub mod Given
pub mod Bodies
pub mod Standing
pub mod Accepting
pub mod Linking
pub mod Naming
pub mod Built
pub mod PlainInstructions
pub mod PlainSources
pub mod Again
pub mod Laws
