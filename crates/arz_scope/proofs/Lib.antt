pub mod Depths
pub mod FieldLemmas
pub mod LatestLemmas
pub mod LineLemmas
pub mod OutputLemmas
pub mod TextLemmas
