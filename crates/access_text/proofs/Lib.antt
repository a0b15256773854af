pub mod Answering
pub mod Unique
