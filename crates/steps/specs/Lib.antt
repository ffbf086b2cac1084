pub mod Bounds
pub mod Stepping
