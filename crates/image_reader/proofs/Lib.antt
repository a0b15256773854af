pub mod Turns
pub mod RegionTurns
pub mod Answers
pub mod Faults
pub mod Unique
