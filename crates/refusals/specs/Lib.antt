-- What the contracts of the refusals cite beside the rulebook.
pub mod Answers
