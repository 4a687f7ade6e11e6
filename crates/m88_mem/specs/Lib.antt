-- What contracts cite: memory over two buses and sets of pages; Inside is for private contracts.
pub mod DataBus
pub mod Marks
pub mod Lines
pub mod Inside
