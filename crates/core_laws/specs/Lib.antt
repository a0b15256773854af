pub mod Run
pub mod Wheels
