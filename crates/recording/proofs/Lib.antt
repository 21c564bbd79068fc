-- Laws that belong to no one function.
pub mod Spelling
pub mod Words
pub mod Placed
pub mod Unique
pub mod Own
pub mod Window
