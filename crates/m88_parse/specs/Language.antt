-- The assembly language: lines, tokens, statements, modules and faults as one relation, in the order of the way.
pub mod Bytes
pub mod Pieces
pub mod Tokens
pub mod Words
pub mod Names
pub mod Operands
pub mod Statements
pub mod Units
pub mod LineFaults
pub mod FirstFaults
pub mod Ended
