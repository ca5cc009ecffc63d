mod Trying
pub mod Naming
mod Sharing
