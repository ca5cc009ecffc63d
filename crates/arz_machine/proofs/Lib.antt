pub mod Turning
pub mod MachineAt
mod Facts
mod Judging
mod Entering
mod Joining
mod Reaching
