pub mod Records
pub mod Tick
