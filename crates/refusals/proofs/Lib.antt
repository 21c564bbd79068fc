-- Laws that belong to no one function.
pub mod Outcomes
pub mod Answers
