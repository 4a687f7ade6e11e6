-- What only helps the proofs: an instruction read back from its word, the words that are all instructions, the one
-- instruction of bytes at an address, and the program that an image holds; Laws is for those above.
pub mod ImagePrograms
pub mod Law
pub mod Laws
pub mod OneAt
pub mod Whole
