pub mod Cycles
pub mod Order
