pub mod Answering
pub mod Replied
