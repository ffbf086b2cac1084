pub mod Dated
pub mod Scans
