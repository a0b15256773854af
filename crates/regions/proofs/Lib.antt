pub mod Clear
pub mod Lawful
pub mod Steps
pub mod Taken
pub mod Unique
