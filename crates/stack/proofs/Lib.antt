pub mod Putting
pub mod Charges
pub mod Settled
