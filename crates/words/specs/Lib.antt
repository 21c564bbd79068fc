-- What the contracts of the words cite beside the rulebook.
pub mod Field
pub mod Sections
pub mod Flags
pub mod Parts
pub mod State
