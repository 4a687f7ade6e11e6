-- Public contracts cite the word table, a definition of m88_isa; Inside is for private contracts.
pub mod Inside
