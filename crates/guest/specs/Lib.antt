pub mod Bits
pub mod Record
pub mod Deliver
pub mod Write
