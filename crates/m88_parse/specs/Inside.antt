-- Words for the contracts of private functions alone: no promise of the program names them. A line and a source as they
-- are read, step by step: what the relation of the language says is here computed, and the proofs tie the two.
pub mod Tokens
pub mod Places
pub mod Names
pub mod State
pub mod Slots
pub mod Shapes
pub mod Operands
pub mod Directives
pub mod Grammar
pub mod Source
pub mod Drafts
