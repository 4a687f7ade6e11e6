-- The texts of instructions, the listing of an image, and what the assembly language makes of them.
pub mod Text
pub mod Listing
pub mod Read
pub mod Inside
