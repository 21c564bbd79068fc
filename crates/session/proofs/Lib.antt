-- Laws of what a session lays.
pub mod Lines
pub mod Checks
pub mod Steps
pub mod Along
pub mod Unique
pub mod Whole
pub mod Cut
