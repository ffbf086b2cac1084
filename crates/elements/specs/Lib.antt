pub mod Gather
pub mod Running
pub mod Walk
