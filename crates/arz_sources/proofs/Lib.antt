pub mod Firsts
pub mod Items
pub mod Numbers
pub mod Searches
pub mod Indexed
pub mod Names
