pub mod Cut
pub mod Seen
pub mod Templates
pub mod Urls
