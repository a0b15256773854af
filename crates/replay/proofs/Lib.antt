pub mod Begun
pub mod Pieces
pub mod Filling
pub mod Unique
