pub mod Rows
pub mod Changing
