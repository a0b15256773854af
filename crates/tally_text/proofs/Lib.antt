pub mod Showing
pub mod Unique
