pub mod Turns
pub mod Growing
pub mod Whole
pub mod Logs
pub mod Unique
