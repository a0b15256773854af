pub mod Digits
pub mod Puts
pub mod Pairs
pub mod Adds
