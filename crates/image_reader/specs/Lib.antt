pub mod Faults
pub mod Reading
pub mod Records
pub mod Reader
