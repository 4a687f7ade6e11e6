-- The records of a text, what it loads or why it is refused, and the text that is written.
pub mod Records
pub mod Placing
pub mod Accepted
pub mod Verdict
pub mod Written
pub mod Reasons
pub mod Refused
pub mod GivesVerdict
pub mod Front
pub mod Begun
pub mod Fed
pub mod Streamed
pub mod Inside
