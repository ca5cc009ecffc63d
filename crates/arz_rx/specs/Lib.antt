pub mod Patterns
pub mod Mapping
pub mod Table
