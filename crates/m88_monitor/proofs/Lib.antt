-- What only helps the proofs: a word with a bit cleared, one triple's service in parts, and the triples of accesses; Laws
-- is for those above.
pub mod Cleared
pub mod Steps
pub mod Pending
pub mod Laws
