-- That the rules leave only one core.
pub mod Parts
pub mod Fits
pub mod Alike
pub mod One
pub mod Runs
pub mod Ours
pub mod Bytes
