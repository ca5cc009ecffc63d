pub mod Tests
pub mod Ready
pub mod Shared
