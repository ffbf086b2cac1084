pub mod Fields
pub mod Digits
pub mod Laying
pub mod Spelling
pub mod Settled
