pub mod Contents
pub mod Named
pub mod Picking
pub mod Puts
pub mod Readings
pub mod Sizes
pub mod Writing
