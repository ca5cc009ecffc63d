pub mod Journal
pub mod Logs
