pub mod Position
pub mod Place
