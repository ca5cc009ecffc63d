pub mod Calls
pub mod Parts
pub mod Requests
pub mod Described
