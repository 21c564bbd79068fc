-- What the laws say, where a statement needs words of its own.
pub mod Acceptance
pub mod Facts
pub mod Sequence
pub mod Chosen
pub mod Visits
pub mod Callable
pub mod Cleared
pub mod Levels
pub mod Reached
pub mod MoreLevels
