pub mod Endings
pub mod Ends
pub mod Exact
pub mod Laws
pub mod Report
pub mod Rows
pub mod Steady
pub mod Words
