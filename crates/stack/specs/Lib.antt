pub mod Slots
pub mod Charging
