-- What a reader of the promises must believe of the chip and its programs.

-- instructions and their words
pub mod Instr
pub mod Names
pub mod Mnemonic
pub mod Letters
pub mod Word
-- how the instruction unit treats them
pub mod Operands
-- what they do
pub mod Vector
pub mod Compute
pub mod Fields
pub mod Address
pub mod Flow
pub mod Lanes
pub mod Memory
pub mod Triples
pub mod Effect
-- a program of them
pub mod Monitor
pub mod Machine
pub mod ImageProgram
pub mod Bus
pub mod History
pub mod Held
-- what only private functions say
pub mod Inside
