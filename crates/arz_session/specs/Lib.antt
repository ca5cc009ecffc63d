pub mod Plain
pub mod Laws
pub mod Mock
pub mod Played
