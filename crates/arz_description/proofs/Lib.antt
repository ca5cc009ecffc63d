pub mod Sound
pub mod Expressions
pub mod Gathered
