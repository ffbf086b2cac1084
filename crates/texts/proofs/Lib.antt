pub mod Cases
pub mod Writing
pub mod Laws
pub mod Fields
pub mod Spelling
pub mod Settled
