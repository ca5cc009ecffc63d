pub mod Fronts
pub mod Reserved
