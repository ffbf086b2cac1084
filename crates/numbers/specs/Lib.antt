pub mod Forms
pub mod Orders
pub mod Operators
pub mod Reckonings
pub mod Scans
