pub mod Operands
pub mod Elms
pub mod Settled
