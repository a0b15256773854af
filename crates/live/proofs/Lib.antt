pub mod Host
pub mod Unique
