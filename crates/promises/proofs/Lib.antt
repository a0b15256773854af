pub mod Due
pub mod Fields
pub mod Follows
pub mod Meets
pub mod Only
