pub mod Numbered
pub mod OneTest
pub mod Orders
mod Wholes
