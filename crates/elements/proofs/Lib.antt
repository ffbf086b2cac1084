pub mod Answering
pub mod Elements
pub mod Gathering
pub mod Looping
pub mod Settled
pub mod Turning
pub mod Walking
