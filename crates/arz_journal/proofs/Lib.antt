mod Appended
mod Begins
mod Firsts
mod Puts
pub mod Nexts
mod Staged
mod Walks
