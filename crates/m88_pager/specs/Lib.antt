-- What contracts cite: stores of pages and the one in memory, the pages of memory, frames, and how a paged run ends.
-- What only private contracts cite stands in Inside.
pub mod Store
pub mod MemoryPages
pub mod Pages
pub mod Frames
pub mod Ends
pub mod Paged
pub mod Inside
