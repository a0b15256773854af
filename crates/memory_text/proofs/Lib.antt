pub mod Texts
pub mod Turns
pub mod Shown
pub mod Theorems
pub mod Unique
