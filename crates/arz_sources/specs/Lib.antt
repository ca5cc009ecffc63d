pub mod Rules
pub mod Seen
pub mod Served
pub mod Failures
