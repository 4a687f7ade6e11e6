-- What only helps the proofs: the frames behind two levels of tables, then words by their places, and the bits of pages,
-- then how all are seen, then the walk over the words that changed; Laws is for those above.
pub mod Levels
pub mod Words
pub mod Bits
pub mod Seen
pub mod Walk
pub mod Kept
pub mod Laws
