pub mod Trees
mod Listings
mod Overlaying
mod Received
