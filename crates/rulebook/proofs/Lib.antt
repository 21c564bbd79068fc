-- The few claims that give the definitions teeth; the laws stand in crates above.
pub mod AtOrAbove
pub mod BusLine
pub mod Reached
pub mod Marked
pub mod Mentioned
pub mod OneStep
pub mod Play
pub mod Outcomes
pub mod Visits
pub mod Width
