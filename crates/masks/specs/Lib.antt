pub mod Bounds
pub mod Pieces
pub mod Scaling
