-- Laws of what a day lays.
pub mod Lines
pub mod State
pub mod Playing
pub mod OnePart
pub mod Unique
pub mod Whole
pub mod Cut
pub mod Examples
