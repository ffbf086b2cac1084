pub mod Numbers
pub mod Settled
