pub mod Laws
pub mod Inside
pub mod Meaning
pub mod Unique
