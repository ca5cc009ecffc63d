pub mod Conversing
pub mod Slots
