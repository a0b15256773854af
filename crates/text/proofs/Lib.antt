pub mod Puts
pub mod Digits
pub mod Pairs
pub mod Values
pub mod Adds
pub mod Unique
