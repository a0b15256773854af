pub mod Sums
pub mod Prints
pub mod Vectors
