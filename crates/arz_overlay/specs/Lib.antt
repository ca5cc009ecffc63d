pub mod Documents
pub mod Steps
pub mod Overlaid
pub mod Applied
pub mod Depths
