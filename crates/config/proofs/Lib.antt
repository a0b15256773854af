pub mod Legality
pub mod Walks
pub mod Values
pub mod Unique
pub mod Query
