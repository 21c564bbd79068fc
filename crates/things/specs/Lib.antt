-- What the contracts of the things cite beside the rulebook.
pub mod Requests
