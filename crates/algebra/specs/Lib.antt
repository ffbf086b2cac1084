pub mod Expressions
pub mod Grammar
pub mod Showing
pub mod Laying
