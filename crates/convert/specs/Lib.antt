pub mod Ceiling
pub mod Finishing
pub mod Marks
