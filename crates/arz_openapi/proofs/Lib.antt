pub mod Decoding
pub mod Placed
pub mod Steps
pub mod Texts
pub mod Indexed
