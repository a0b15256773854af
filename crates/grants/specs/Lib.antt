pub mod Access
pub mod Cover
