pub mod Same
pub mod Whole
pub mod Lines
pub mod Pieces
pub mod Progress
pub mod Printed
