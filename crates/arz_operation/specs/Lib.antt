pub mod References
pub mod Parameters
pub mod Servers
pub mod Named
