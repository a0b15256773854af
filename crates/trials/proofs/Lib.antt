pub mod Same
pub mod Refuted
pub mod Vectors
