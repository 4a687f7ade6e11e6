-- What contracts cite: the accesses that are pending; Inside is for private contracts.
pub mod Pending
pub mod Inside
