-- What the contracts of the state cite beside the rulebook.
pub mod Made
pub mod Admission
