-- What the contracts of rule 10 cite beside the rulebook.
pub mod Raised
