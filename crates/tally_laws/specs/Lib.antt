pub mod Adds
pub mod Example
