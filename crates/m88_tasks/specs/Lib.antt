-- What contracts cite: letters, the shared timeline, and what a shared run comes to. What only private contracts cite
-- stands in Inside.
pub mod Letters
pub mod Shared
pub mod Past
pub mod Tasks
pub mod Inside
