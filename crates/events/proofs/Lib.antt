-- Laws of the answers.
pub mod Unique
pub mod Exits
