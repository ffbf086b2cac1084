pub mod Endings
pub mod Within
pub mod Turns
pub mod CodeRuns
pub mod Parts
pub mod Plans
pub mod Settled
