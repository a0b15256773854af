pub mod Rules
pub mod Beside
pub mod Ranges
