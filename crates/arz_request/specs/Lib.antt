pub mod Causes
pub mod Fits
pub mod MediaTypes
pub mod Named
pub mod Parameters
pub mod Payloads
pub mod Requests
