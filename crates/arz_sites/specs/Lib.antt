pub mod Sites
pub mod Texts
pub mod Wants
