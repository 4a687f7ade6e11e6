-- What contracts cite: the language, what a call answers, what the assembler may rely on; Inside is for private
-- contracts.
pub mod Language
pub mod Fault
pub mod WellFormed
pub mod Inside
