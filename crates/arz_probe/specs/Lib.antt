pub mod Reports
pub mod Paths
pub mod Selections
pub mod Journals
pub mod Overlays
pub mod Replies
