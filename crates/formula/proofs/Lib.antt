pub mod Lines
pub mod Settled
