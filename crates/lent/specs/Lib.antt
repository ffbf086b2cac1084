pub mod Over
pub mod Scan
