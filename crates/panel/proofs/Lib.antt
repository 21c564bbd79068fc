-- Laws that belong to no one function.
pub mod Parts
pub mod Along
pub mod Answers
pub mod Same
pub mod Short
pub mod Marked
pub mod Alike
