-- What the contracts of rule 9 cite beside the rulebook.
pub mod Costs
