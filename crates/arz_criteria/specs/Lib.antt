pub mod Rules
pub mod Taken
pub mod Laws
