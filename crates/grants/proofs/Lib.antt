pub mod Reaching
pub mod Meaning
pub mod Unique
