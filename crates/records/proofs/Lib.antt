pub mod Turns
pub mod Scanning
pub mod Spots
pub mod Refusing
pub mod Finding
pub mod Replacing
pub mod Writing
pub mod Settled
