pub mod Lists
pub mod Meaning
pub mod Turns
pub mod Unique
pub mod Counted
