pub mod Words
pub mod Lexical
pub mod Numbers
pub mod Typing
pub mod Reading
pub mod Nesting
pub mod Answers
pub mod Grammar
