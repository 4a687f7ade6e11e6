-- What a reader of the promises must believe: the words of the program, its inputs, and what is written for them.
pub mod Request
pub mod Inputs
pub mod Answer
pub mod Laws
pub mod Inside
