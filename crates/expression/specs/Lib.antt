-- What the contracts of expressions cite beside the rulebook.
pub mod Tests
pub mod Section
