pub mod Targets
pub mod FirstTargets
pub mod Depths
pub mod Kept
pub mod PlacesOnce
pub mod Within
pub mod Overlays
