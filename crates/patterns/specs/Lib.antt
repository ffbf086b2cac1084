pub mod Reach
pub mod Readable
