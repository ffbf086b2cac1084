pub mod Found
pub mod Scan
pub mod Planned
