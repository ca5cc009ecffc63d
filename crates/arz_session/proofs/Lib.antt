pub mod EndsOver
mod Mocking
