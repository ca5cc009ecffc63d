pub mod Spelling
pub mod Reading
pub mod Bounds
pub mod Names
pub mod Entries
pub mod Texts
