pub mod Laws
pub mod Laying
pub mod Scans
pub mod Blocks
pub mod Pieces
pub mod Settled
