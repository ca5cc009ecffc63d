pub mod Chars
pub mod Rows
