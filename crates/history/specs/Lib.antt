pub mod History
pub mod Moments
pub mod Queueing
pub mod Telling
