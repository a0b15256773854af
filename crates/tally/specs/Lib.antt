pub mod Logs
pub mod Figures
pub mod Counting
