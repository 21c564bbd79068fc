-- Laws that belong to no one function.
pub mod Along
pub mod Verdicts
pub mod Exactly
pub mod Unique
