-- Laws that belong to no one function.
pub mod Raised
pub mod Rounds
pub mod Place
