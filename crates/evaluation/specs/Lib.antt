-- What the contracts of the evaluation cite beside the rulebook.
pub mod Condition
pub mod Found
pub mod Section
