pub mod Bits
pub mod Bounds
pub mod Choice
pub mod Count
pub mod Buffer
pub mod Numbers
pub mod Nobody
