pub mod Reaches
pub mod Search
