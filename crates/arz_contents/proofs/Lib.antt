pub mod TextLevels
