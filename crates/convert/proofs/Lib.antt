pub mod Accepting
pub mod Answering
pub mod Counting
pub mod Demands
pub mod Settled
pub mod Stages
