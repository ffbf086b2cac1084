pub mod Reading
pub mod Addresses
pub mod Heads
