-- Laws of what events cost and of how it is laid.
pub mod Lines
pub mod MostIs
pub mod Along
pub mod Unique
pub mod Whole
pub mod Cut
pub mod Examples
