pub mod Texts
pub mod Offsets
pub mod Unique
