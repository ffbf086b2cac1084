pub mod Typed
pub mod Settled
