-- Laws that belong to no one function.
pub mod Judging
pub mod Lines
pub mod Telling
pub mod Exactly
pub mod Log
