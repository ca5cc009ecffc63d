pub mod StartTree
pub mod Lengths
