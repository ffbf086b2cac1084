pub mod Meaning
pub mod Counting
