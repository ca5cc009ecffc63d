mod Crashes
mod Lasts
mod MemoryWorlds
pub mod Moments
mod Pieces
mod Replayed
mod Tapes
mod Times
