pub mod Grammar
pub mod Reading
pub mod Values
pub mod Filling
pub mod Cuts
