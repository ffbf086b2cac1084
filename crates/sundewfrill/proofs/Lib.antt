pub mod Algebra
pub mod Demands
pub mod Rereading
pub mod Settled
pub mod Symmetry
