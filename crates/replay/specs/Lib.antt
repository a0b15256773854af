pub mod Run
pub mod Piece
