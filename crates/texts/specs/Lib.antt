pub mod Codes
pub mod Scans
