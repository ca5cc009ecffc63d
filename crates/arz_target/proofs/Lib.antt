pub mod Braces
pub mod OutsidePaths
pub mod PathParts
pub mod Ports
pub mod Slashes
