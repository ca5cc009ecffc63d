pub mod Entries
pub mod Lengths
