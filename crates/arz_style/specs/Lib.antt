pub mod Escapes
pub mod Forms
pub mod Styles
pub mod Texts
