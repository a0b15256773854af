pub mod Failing
pub mod Requests
pub mod Unique
