pub mod Children
pub mod Merging
pub mod Removal
pub mod Weight
pub mod Members
pub mod Faults
pub mod Groups
pub mod Actions
