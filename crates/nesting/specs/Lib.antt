-- What the contracts of rule 7 cite beside the rulebook.
pub mod Depths
