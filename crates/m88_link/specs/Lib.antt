-- What contracts cite: objects, where they stand, relocation, the layout, its refusals and its image, and their text;
-- Inside is for private contracts.
pub mod Symbols
pub mod Sound
pub mod Sizes
pub mod Bases
pub mod Field
pub mod Relocated
pub mod Layout
pub mod Faults
pub mod Refusal
pub mod Forced
pub mod Linked
pub mod Reasons
pub mod ObjectText
pub mod ObjectRead
pub mod Inside
