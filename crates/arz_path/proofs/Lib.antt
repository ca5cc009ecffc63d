pub mod Outcomes
pub mod Growth
pub mod Faults
pub mod Lists
pub mod Meanings
pub mod Slices
pub mod Levels
pub mod Equality
pub mod Parts
pub mod Absolute
pub mod Bridge
pub mod Walks
pub mod Steps
pub mod SelectedPlaces
pub mod Told
mod Rows
