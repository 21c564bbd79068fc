-- Laws that belong to no one function.
pub mod Same
pub mod Laid
pub mod Kept
pub mod Whole
