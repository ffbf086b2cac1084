pub mod Marking
pub mod Testing
pub mod Choosing
pub mod Settled
