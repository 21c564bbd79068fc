-- What the contracts of the lists cite beside the rulebook.
pub mod Runs
