pub mod Counts
pub mod Effects
pub mod More
pub mod Steps
pub mod Lawful
pub mod Ticking
