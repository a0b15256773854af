pub mod Trips
pub mod Vectors
pub mod RegionVectors
pub mod Returned
