-- What a reader of the promises must believe: the handler's machine, how it is entered and returns, and the judge.
pub mod Machine
pub mod Handled
pub mod Entering
pub mod Judging
pub mod Inside
