-- The laws of memory that proofs above cite.

-- A walk over the words that changed adds a word that is another, and nothing for one that is the same.
pub use Rattle.m88_mem.proofs.Walk.{other_word, same_word}
