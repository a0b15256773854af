pub mod Laws
pub mod Members
pub mod Facts
pub mod Unique
