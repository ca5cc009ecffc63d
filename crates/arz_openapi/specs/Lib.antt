pub mod Rules
pub mod Parts
pub mod Sites
pub mod Names
pub mod Spots
pub mod Indexes
pub mod Called
pub mod Targets
