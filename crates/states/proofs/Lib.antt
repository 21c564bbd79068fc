-- Laws that belong to no one function.
pub mod Fitting
pub mod Making
pub mod Admitting
