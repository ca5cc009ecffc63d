mod Gathered
mod Noted
pub mod Agreed
